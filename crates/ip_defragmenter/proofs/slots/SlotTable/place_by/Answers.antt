use Rattle.std.proofs.Common.{Option, Some, sym, subst, rules}
use Rattle.ip_lists.specs.Moves.{without}
use Rattle.ip_lists.proofs.Filters.{without_has}
use Rattle.ip_defragmenter.specs.Slots.{HoldsPackets, free_after, used_after}
use Rattle.ip_defragmenter.specs.declared.slots.Placement.{Placement}
use Rattle.ip_defragmenter.proofs.SlotLemmas.{held, unchanged, no_other, used_cases}
use Rattle.ip_defragmenter.proofs.slots.SlotTable.place_by.Goals as goal

pub returns-in_err-found-clause-packets : goal.returns-in_err-found-clause-packets
returns-in_err-found-clause-packets c = λ free used holds.
    let new = c.place_in_bucket.new.self in
    let P : Option Placement → Type 0 = λ o. HoldsPackets new c.args.settings.now.seed (free_after free o) (used_after used o) in
    subst P (sym c.from_residual-in_err-found.ensures) (unchanged c.args.self.now new c.args.settings.now.seed free used c.place_in_bucket.ensures.slots (c.place_in_bucket.ensures.none c.in_err-found.was) holds)

pub returns-clause-packets : goal.returns-clause-packets
returns-clause-packets c = λ free used holds.
    let old = c.args.self.now in
    let p = c.in_ok-found.found in
    let settings = c.args.settings.now in
    let exists = c.in_ok-bucket.ensures.within in
    let is = c.in_ok-bucket.ensures.bucket in
    let place = c.in_ok-found.ensures.place settings.seed free used holds exists is in
    let table = c.in_ok-found.ensures.table settings.seed free used holds exists is in
    held old _ settings.seed free used (without p.index free) (used_after used (Some p)) c.args.context c.args.key.now p.index p.since holds c.in_ok-bucket.ensures.key c.in_ok-found.ensures.within
    (search rules) c.in_ok-found.ensures.size (rw is at table) (no_other settings.timeout old settings.seed free used c.args.context c.args.key.now c.args.time p holds place)
    (λ j there. without_has p.index free j there) (used_cases p used)
