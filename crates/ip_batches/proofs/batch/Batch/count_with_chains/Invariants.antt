use Rattle.std.proofs.Common.{◌≡◌, [], take}
use Rattle.ip_chain_counts.specs.Chain.{keys_of_all}
use Rattle.ip_key_counts.specs.Counts.{keys_counted}
use Rattle.ip_key_counts.specs.Table.{counts_in, room_of, IsTable}
use Rattle.ip_statistics.specs.Statistics.{merged}
use Rattle.ip_statistics.specs.Lists.{statistics_of}
use Rattle.ip_batches.specs.Batch.{packets_at}
use Rattle.ip_batches.proofs.batch.Batch.count_with_chains.Given as goal

-- the packets before the index are counted, and so are their chains
abbrev pub invariant-packets : goal.invariant-packets
invariant-packets l =
    (l.statistics ≡ merged l.fn.statistics (statistics_of (packets_at l.self.buffer.now (take l.index l.self.spans.now))))
    × (IsTable l.fn.chains
    → counts_in l.chains ≡ keys_counted (room_of l.chains) (counts_in l.fn.chains) (keys_of_all [] (packets_at l.self.buffer.now (take l.index l.self.spans.now))))
    × (IsTable l.fn.chains → IsTable l.chains)
    × (room_of l.chains ≡ room_of l.fn.chains)
    × (l.chains.seed ≡ l.fn.chains.seed)
