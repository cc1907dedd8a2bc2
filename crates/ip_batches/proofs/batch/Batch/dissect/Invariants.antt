use Rattle.std.proofs.Common.{◌≡◌, ◌++◌, take, drop}
use Rattle.ip_batches.specs.Batch.{packets_at, all_parts}
use Rattle.ip_batches.proofs.batch.Batch.dissect.Given as goal

-- the results before the index are stored
abbrev pub invariant-packets : goal.invariant-packets
invariant-packets l = l.parts ≡ take l.index (all_parts (packets_at l.self.buffer.now l.self.spans.now)) ++ drop l.index l.fn.parts
