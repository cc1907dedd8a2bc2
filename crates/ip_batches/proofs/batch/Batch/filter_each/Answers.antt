use Rattle.std.proofs.Common.{ap, ◌∙◌}
use Rattle.ip_dissect.specs.Dissection.{dissected}
use Rattle.ip_filter.specs.Tests.{meets}
use Rattle.ip_filter.specs.Program.{tests_of, passes}
use Rattle.ip_statistics.specs.Counts.{one_if}
use Rattle.ip_batches.proofs.BatchLemmas.{next_stored}
use Rattle.ip_batches.proofs.batch.Batch.filter_each.Goals as goal

pub packets-preserved : goal.packets-preserved
packets-preserved c = next_stored c.args.self.now.buffer.now c.args.self.now.spans.now (λ s. one_if (passes (tests_of c.args.filter.now) (λ x. meets x (dissected s)))) _ _ _ _ _ _ c.packets.invariant c.packets-test.true c.min-count.ensures c.packet.ensures (c.byte_of.ensures ∙ ap one_if c.matches.ensures)
