use Rattle.std.proofs.Common.{◌≡◌, Ok, Result, rules, sym, subst}
use Rattle.ip_reassembly.specs.declared.progress.Progress.{Progress}
use Rattle.ip_reassembly.specs.declared.progress.Progress.TheVariants.{Whole}
use Rattle.ip_defragmenter.specs.declared.err.StoreError.{StoreError}
use Rattle.ip_defragmenter.specs.Added.{is_whole, free_with, used_without}
use Rattle.ip_defragmenter.specs.Slots.{HoldsPackets}
use Rattle.ip_defragmenter.proofs.defragmenter.free_if_whole.Goals as goal

pub returns-in-Ok-Whole-clause-packets : goal.returns-in-Ok-Whole-clause-packets
returns-in-Ok-Whole-clause-packets c = λ seed free used holds there.
    let is : c.args.stored.now ≡ Ok Whole = search rules in
    let P : Result Progress StoreError → Type 0 = λ r. HoldsPackets c.release.new.self seed (free_with (is_whole r) c.args.index free) (used_without (is_whole r) c.args.index used) in
    subst P (sym is) (c.release.ensures.packets seed free used holds there)
