use Rattle.std.proofs.Common.{◌==◌, refl, arith}
use Rattle.std.proofs.lemmas.Grind.{common_steps}
use Rattle.ip_statistics.specs.Counts.{one_if}
use Rattle.ip_statistics.proofs.CountLemmas.{sum_of_none, sum_of_one}
use Rattle.ip_batches.proofs.plain.count_at.Goals as goal

pub returns-then-index-counts : goal.returns-then-index-counts
returns-then-index-counts c = sum_of_one _ _ c.args.index (λ i. one_if (c.args.index == i)) c.if-index-counts.true c.add_at.ensures c.type_inv.counts (grind (arith, common_steps)) (λ i other. grind (arith, common_steps))

pub returns-else-index-counts : goal.returns-else-index-counts
returns-else-index-counts c = sum_of_none _ _ _ refl c.type_inv.counts (λ i l. grind (arith, common_steps))
