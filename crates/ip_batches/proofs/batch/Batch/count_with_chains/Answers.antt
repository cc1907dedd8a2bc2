use Rattle.std.proofs.Common.{◌≡◌, ◌++◌, ◌∷◌, ◌+◌, [], ℕ, List, refl, sym, ap, ◌∙◌, take}
use Rattle.std.proofs.lemmas.List.{take_all}
use Rattle.ip_chain_counts.specs.Chain.{keys_of_all}
use Rattle.ip_key_counts.specs.Counts.{keys_counted}
use Rattle.ip_key_counts.specs.Table.{counts_in, room_of}
use Rattle.ip_statistics.specs.Statistics.{merged}
use Rattle.ip_statistics.specs.Lists.{statistics_of}
use Rattle.ip_batches.specs.Batch.{packets_at}
use Rattle.ip_batches.specs.declared.batch.PacketSpan.{PacketSpan}
use Rattle.ip_batches.proofs.BatchLemmas.{next_packet}
use Rattle.ip_batches.proofs.ChainLemmas.{no_chains}
use Rattle.ip_batches.proofs.SumLemmas.{next_counted}
use Rattle.ip_batches.proofs.batch.Batch.count_with_chains.Goals as goal

pub packets-init : goal.packets-init
packets-init c = (sym c.add_nothing.ensures, λ table. no_chains _ _ [], λ table. table, refl, refl)

pub packets-preserved : goal.packets-preserved
packets-preserved c =
    let buffer : List ℕ = c.args.self.now.buffer.now in
    let spans : List PacketSpan = c.args.self.now.spans.now in
    let before = c.packets.invariant in
    let one = c.count_packet_and_chain.ensures in
    let next : packets_at buffer (take c.packets.index spans) ++ c.packet.result.now ∷ [] ≡ packets_at buffer (take (c.packets.index + 1) spans) =
    next_packet buffer spans c.packets.index _ c.packets-test.true c.packet.ensures in (
      next_counted c.args.statistics.now c.packets.statistics _ _ c.packet.result.now before.0 one.statistics
          ∙ ap (λ (xs : List (List ℕ)). merged c.args.statistics.now (statistics_of xs)) next,
      λ table. one.packets (counts_in c.args.chains.now) (packets_at buffer (take c.packets.index spans)) (before.2 table) (before.1 table)
          ∙ (ap (λ (xs : List (List ℕ)). keys_counted (room_of c.packets.chains) (counts_in c.args.chains.now) (keys_of_all [] xs)) next
          ∙ ap (λ (r : ℕ). keys_counted r (counts_in c.args.chains.now) (keys_of_all [] (packets_at buffer (take (c.packets.index + 1) spans)))) (sym one.room)),
      λ table. one.table (before.2 table),
      one.room ∙ before.3,
      one.seed ∙ before.4,
    )

pub returns : goal.returns
returns c =
    let buffer : List ℕ = c.args.self.now.buffer.now in
    let all = take_all _ _ c.packets-test.false in
    record {
      statistics = (c.packets.invariant).0 ∙ ap (λ (xs : List PacketSpan). merged c.args.statistics.now (statistics_of (packets_at buffer xs))) all;
      chains = λ table. (c.packets.invariant).1 table
          ∙ (ap (λ (r : ℕ). keys_counted r (counts_in c.args.chains.now) (keys_of_all [] (packets_at buffer (take c.packets.index c.args.self.now.spans.now)))) (c.packets.invariant).3
          ∙ ap (λ (xs : List PacketSpan). keys_counted (room_of c.args.chains.now) (counts_in c.args.chains.now) (keys_of_all [] (packets_at buffer xs))) all);
      table = (c.packets.invariant).2;
      room = (c.packets.invariant).3;
      seed = (c.packets.invariant).4;
    }
