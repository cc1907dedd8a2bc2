use Rattle.std.proofs.Common.{ap, ◌∙◌}
use Rattle.std.specs.List.{find}
use Rattle.ip_defragmenter.specs.Slots.{has_key, slot_at}
use Rattle.ip_defragmenter.proofs.SlotLemmas.{if_found, has_within, has_used}
use Rattle.ip_defragmenter.proofs.slots.SlotTable.find_own.Goals as goal

pub returns-clause-first : goal.returns-clause-first
returns-clause-first c = λ free used bucket_of table.
    c.find_in.ensures.first ∙ ap (find (λ p. has_key c.args.context c.args.key.now (slot_at c.args.self.now.slots.now p))) (c.chain.ensures.chain free used bucket_of table)

pub returns-clause-within : goal.returns-clause-within
returns-clause-within c = if_found c.find_in.result _ _ (has_within c.args.context c.args.key.now c.args.self.now.slots.now) c.find_in.ensures.has

pub returns-clause-used : goal.returns-clause-used
returns-clause-used c =
    let slots = c.args.self.now.slots.now in
    if_found c.find_in.result _ _ (λ i has. has_used c.args.context c.args.key.now (slot_at slots i) has) c.find_in.ensures.has
