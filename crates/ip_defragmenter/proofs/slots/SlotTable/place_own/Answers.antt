use Rattle.std.proofs.Common.{Option, sym, subst}
use Rattle.ip_lists.specs.Table.{IsTable, with_bucket}
use Rattle.ip_lists.proofs.Tables.{other_buckets}
use Rattle.ip_defragmenter.specs.Slots.{used_after}
use Rattle.ip_defragmenter.specs.declared.slots.Placement.{Placement}
use Rattle.ip_defragmenter.proofs.SlotLemmas.{with_own, kept_table, moved_table, not_true, not_false}
use Rattle.ip_defragmenter.proofs.slots.SlotTable.place_own.Goals as goal

pub returns-in_err-pending-clause-table : goal.returns-in_err-pending-clause-table
returns-in_err-pending-clause-table c = λ free used bucket_of table there exists own.
    let P : Option Placement → Type 0 = λ o. IsTable c.args.self.now.table free (used_after used o) (with_bucket bucket_of c.args.place c.args.bucket) in
    subst P (sym c.from_residual.ensures) (other_buckets _ free used _ _ table (λ q _. with_own bucket_of c.args.place c.args.bucket q own))

pub returns-then-not-found-clause-table : goal.returns-then-not-found-clause-table
returns-then-not-found-clause-table c = λ free used bucket_of table there exists own.
    moved_table c.own_place-found.result c.args.place _ free used _ (not_true _ c.if-not-found.true) c.own_place-found.ensures.index (c.renew.ensures.renewed free used bucket_of table there exists).1

pub returns-else-not-found-clause-table : goal.returns-else-not-found-clause-table
returns-else-not-found-clause-table c = λ free used bucket_of table there exists own.
    kept_table c.own_place-found.result _ free used _ (not_false _ c.if-not-found.false) (other_buckets _ free used _ _ table (λ q _. with_own bucket_of c.args.place c.args.bucket q own))
