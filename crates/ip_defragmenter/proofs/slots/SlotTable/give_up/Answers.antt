use Rattle.std.proofs.Common.{sym}
use Rattle.ip_defragmenter.specs.Slots.{slot_at}
use Rattle.ip_defragmenter.proofs.SlotLemmas.{in_use, loss_of_used}
use Rattle.ip_defragmenter.proofs.slots.SlotTable.give_up.Goals as goal

pub returns-in-Some-clause-packets : goal.returns-in-Some-clause-packets
returns-in-Some-clause-packets c = λ seed free used holds.
    let within = c.in-Some.ensures.within in
    c.release.ensures.packets seed free used holds
    (in_use c.args.self.now seed free used c.args.index holds within.1 (loss_of_used c.args.timeout c.args.time (slot_at c.args.self.now.slots.now c.args.index) c.in-Some.loss (sym (c.in-Some.ensures.lost within.1))))
