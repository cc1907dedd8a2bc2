use Rattle.std.proofs.Common.{ap}
use Rattle.std.specs.Prelude.{slice_set}
use Rattle.ip_defragmenter.specs.declared.slot.Slot.{Slot}
use Rattle.ip_defragmenter.proofs.SlotLemmas.{released_one}
use Rattle.ip_defragmenter.proofs.slots.SlotTable.release.Goals as goal

pub returns-clause-packets : goal.returns-clause-packets
returns-clause-packets c = λ seed free used holds there.
    let size = c.release.ensures in
    released_one c.args.self.now _ seed free used c.args.index c.release.result holds there c.requires.within
    (ap (λ (s : Slot). slice_set c.args.self.now.slots.now c.args.index s) c.free.ensures)
    (record { places = size.places; buckets = size.buckets; room = size.room }) (λ xs ys b table. size.released free xs ys b table)
