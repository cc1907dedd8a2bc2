use Rattle.ip_batches.proofs.PlainLemmas.{first_added, none_added}
use Rattle.ip_batches.proofs.plain.add_first.Goals as goal

pub returns-then-counts-gt0 : goal.returns-then-counts-gt0
returns-then-counts-gt0 c = first_added _ _ _ c.if-counts-gt0.true c.type_inv.counts c.add_at.ensures

pub returns-else-counts-gt0 : goal.returns-else-counts-gt0
returns-else-counts-gt0 c = none_added _ _ c.if-counts-gt0.false
