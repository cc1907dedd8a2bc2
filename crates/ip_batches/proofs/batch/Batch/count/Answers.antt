use Rattle.std.proofs.Common.{◌∙◌, ap, sym, refl}
use Rattle.std.proofs.lemmas.List.{take_all}
use Rattle.ip_statistics.specs.Statistics.{merged}
use Rattle.ip_statistics.specs.Lists.{statistics_of}
use Rattle.ip_batches.specs.Batch.{packets_at}
use Rattle.ip_batches.specs.Plain.{with_plain}
use Rattle.ip_batches.proofs.BatchLemmas.{next_packet}
use Rattle.ip_batches.proofs.PlainLemmas.{no_plain}
use Rattle.ip_batches.proofs.SumLemmas.{next_counted, counted_after}
use Rattle.ip_batches.proofs.batch.Batch.count.Goals as goal

pub packets-init : goal.packets-init
packets-init c = no_plain _ _ c.add_nothing.ensures refl ∙ sym c.add_nothing.ensures

pub packets-preserved : goal.packets-preserved
packets-preserved c = next_counted c.args.statistics.now (with_plain c.packets.plain c.packets.statistics) _ _ c.packet.result.now c.packets.invariant c.count_either.ensures
    ∙ ap (λ xs. merged c.args.statistics.now (statistics_of xs)) (next_packet c.args.self.now.buffer.now c.args.self.now.spans.now c.packets.index _ c.packets-test.true c.packet.ensures)

pub returns : goal.returns
returns c =
    let counts = c.add_to.ensures ∙ c.packets.invariant ∙ ap (λ spans. merged c.args.statistics.now (statistics_of (packets_at c.args.self.now.buffer.now spans))) (take_all _ _ c.packets-test.false) in
    record {
      counts = counts;
      packets = λ xs before. counted_after c.args.statistics.now _ (packets_at c.args.self.now.buffer.now c.args.self.now.spans.now) xs counts before;
    }
