-- The first member is neither a head nor in the other list: it is taken out of its list, which leaves the other one as it
-- is, and then appended to that one.
use Rattle.std.proofs.Common.{◌≡◌, ◌≢◌, ℕ, ◌<◌, ◌++◌, List, [], ◌∷◌, length, refl, sym, ap, subst, suc, arith}
use Rattle.std.specs.Prelude.{Contains, Some}
use Rattle.std.proofs.lemmas.Option.{none-some, same_Some}
use Rattle.ip_lists.specs.Lists.{IsList}
use Rattle.check_uses.proofs.lists.move_first.Goals as goal

pub returns-in_err-place-clause-moved : goal.returns-in_err-place-clause-moved
returns-in_err-place-clause-moved c = λ p xs ys list _ _ _. absurd (none-some p (c.in_err-place.ensures.list (p ∷ xs) list))

-- what is in a list is in a longer one
in_longer : (x q : ℕ) (xs : List ℕ) → Contains xs q → Contains (x ∷ xs) q
in_longer x q xs there = (suc there.0, (let within : there.0 < length xs = there.1 in omega arith), there.2)

moved : (c : goal.After-push_back) (xs ys : List ℕ) → let place = c.in_ok-place.place in IsList c.args.links.now.next.now c.args.from (place ∷ xs)
    → IsList c.args.links.now.next.now c.args.to ys → (Contains (place ∷ xs) c.args.to → ⊥) → (Contains ys c.args.from → ⊥)
    → IsList c.push_back.new.self.next.now c.args.from xs × IsList c.push_back.new.self.next.now c.args.to (ys ++ place ∷ [])
moved c xs ys list other no_to no_from =
    let place = c.in_ok-place.place in
    let next = c.args.links.now.next.now in
    let there : Contains (place ∷ xs) place = (0, omega arith, refl) in
    let not_from : c.args.from ≢ place = λ e. c.each_head_has_one_list.ensures.without_head next c.args.from (place ∷ xs) list (let P : ℕ → Type 0 = λ q. Contains (place ∷ xs) q in subst P (sym e) there) in
    let not_to : c.args.to ≢ place = λ e. no_to (let P : ℕ → Type 0 = λ q. Contains (place ∷ xs) q in subst P (sym e) there) in
    let apart : Contains ys place → ⊥ = c.lists_are_apart.ensures.heads next c.args.from c.args.to (place ∷ xs) ys list other c.requires.apart no_to no_from place there in
    let within : place < length next = ((c.in_ok-place.ensures.link place).0 refl).2 in
    let removed = c.remove.ensures.done c.requires.linked within in
    let linked = c.remove.ensures.linked c.requires.linked in
    let from_rest = c.remove.ensures.taken c.requires.linked c.args.from [] xs not_from list in
    let to_stays = c.remove.ensures.others c.requires.linked c.args.to ys not_to apart other in
    let head_within : c.args.to < length c.remove.new.self.next.now = (let same = c.remove.ensures.len in let inside : c.args.to < length next = c.each_head_has_one_list.ensures.within next c.args.to ys other 0 0 (omega arith) in omega arith) in
    let pushed = c.push_back.ensures.done linked head_within (λ e. not_to (sym e)) (c.remove.ensures.alone removed) in (
      c.push_back.ensures.others linked pushed c.args.from xs c.requires.apart not_from (λ in_rest. no_to (in_longer place c.args.to xs in_rest)) from_rest,
      c.push_back.ensures.appended linked pushed ys to_stays,
    )

pub returns-clause-moved : goal.returns-clause-moved
returns-clause-moved c = λ p xs ys list other no_to no_from.
    let same : c.in_ok-place.place ≡ p = same_Some c.in_ok-place.place p (c.in_ok-place.ensures.list (p ∷ xs) list) in
    let P : ℕ → Type 0 = λ q. IsList c.args.links.now.next.now c.args.from (q ∷ xs) in
    let Q : ℕ → Type 0 = λ q. Contains (q ∷ xs) c.args.to → ⊥ in
    let R : ℕ → Type 0 = λ q. IsList c.push_back.new.self.next.now c.args.to (ys ++ q ∷ []) in
    let both = moved c xs ys (subst P (sym same) list) other (subst Q (sym same) no_to) no_from in
    (ap Some same, both.0, subst R same both.1)
