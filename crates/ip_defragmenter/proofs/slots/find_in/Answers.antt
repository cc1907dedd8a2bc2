use Rattle.std.proofs.Common.{◌≡◌, ℕ, Option, Some, None, refl, sym, ◌∙◌, rules}
use Rattle.std.specs.Option.{option_map}
use Rattle.std.proofs.Common.{tests}
use Rattle.std.proofs.lemmas.Iterator.Consumers.{YieldsList-from_first}
use Rattle.std.proofs.lemmas.Iterator.Search.{find_from_yields_List}
use Rattle.ip_lists.specs.Members.{members_left}
use Rattle.ip_defragmenter.specs.Slots.{has_key, slot_at}
use Rattle.ip_defragmenter.proofs.slots.find_in.Goals as goal

same_found : (o : Option ℕ) → option_map (λ (x : ℕ). x) o ≡ o
same_found None = refl
same_found (Some x) = refl

pub returns-clause-first : goal.returns-clause-first
returns-clause-first c =
    sym (same_found c.find.result)
    ∙ find_from_yields_List (λ p. has_key c.args.context c.args.key.now (slot_at c.args.slots.now p)) c.find.new.self _ c.find.result c.find.ensures.ran
    (YieldsList-from_first (λ (x : ℕ). x) members_left {s = c.args.places} _ refl) (λ x b q k. search (rules, tests))
