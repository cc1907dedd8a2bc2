use Rattle.std.proofs.Common.{◌≡◌, ◌++◌, take, drop}
use Rattle.ip_batches.specs.Batch.{packets_at, matches_of}
use Rattle.ip_batches.proofs.batch.Batch.filter_each.Given as goal

-- the results before the index are stored
abbrev pub invariant-packets : goal.invariant-packets
invariant-packets l = l.matches ≡ take l.index (matches_of l.filter (packets_at l.self.buffer.now l.self.spans.now)) ++ drop l.index l.fn.matches
