use Rattle.ip_defragmenter.proofs.SlotLemmas.{cleared}
use Rattle.ip_defragmenter.proofs.slots.SlotTable.clear.Goals as goal

pub returns-clause-cleared : goal.returns-clause-cleared
returns-clause-cleared c = λ _ seed.
    let table = c.clear.ensures in
    let room = c.has_room.ensures.0 c.if-not-has_room.false in
    cleared c.args.self.now _ seed room.as_many room.room room.has_bucket c.free_all.auto.slots c.free_all.ensures
    (record { places = table.places; buckets = table.buckets; room = λ _. table.room }) table.cleared
