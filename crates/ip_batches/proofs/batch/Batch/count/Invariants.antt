use Rattle.std.proofs.Common.{◌≡◌, take}
use Rattle.ip_statistics.specs.Statistics.{merged}
use Rattle.ip_statistics.specs.Lists.{statistics_of}
use Rattle.ip_batches.specs.Batch.{packets_at}
use Rattle.ip_batches.specs.Plain.{with_plain}
use Rattle.ip_batches.proofs.batch.Batch.count.Given as goal

-- the packets before the index are counted, in part in the plain counts
abbrev pub invariant-packets : goal.invariant-packets
invariant-packets l = with_plain l.plain l.statistics ≡ merged l.fn.statistics (statistics_of (packets_at l.self.buffer.now (take l.index l.self.spans.now)))
