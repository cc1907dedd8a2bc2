use Rattle.ip_dissect.specs.Dissection.{dissected}
use Rattle.ip_spans.specs.DissectionParts.{dissection_parts}
use Rattle.ip_batches.proofs.BatchLemmas.{next_stored}
use Rattle.ip_batches.proofs.batch.Batch.dissect.Goals as goal

pub packets-preserved : goal.packets-preserved
packets-preserved c = next_stored c.args.self.now.buffer.now c.args.self.now.spans.now (λ s. dissection_parts (dissected s)) _ _ _ _ _ _ c.packets.invariant c.packets-test.true c.min-count.ensures c.packet.ensures c.put_either.ensures
