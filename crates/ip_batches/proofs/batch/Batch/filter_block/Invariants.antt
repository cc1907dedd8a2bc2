use Rattle.std.proofs.Common.{◌≡◌, ◌++◌, ◌+◌, ℕ, List, take, drop, length}
use Rattle.ip_batches.specs.Batch.{packets_at, matches_of}
use Rattle.ip_batches.proofs.batch.Batch.filter_block.Given as goal

-- the results of packets before the index are stored
abbrev pub invariant-packets : goal.invariant-packets
invariant-packets l = (length l.matches ≡ length l.fn.matches) × ((old : List ℕ) → length old ≡ length l.fn.matches
    → l.fn.matches ≡ take l.first (matches_of l.filter (packets_at l.self.buffer.now l.self.spans.now)) ++ drop l.first old
    → l.matches ≡ take (l.first + l.index) (matches_of l.filter (packets_at l.self.buffer.now l.self.spans.now)) ++ drop (l.first + l.index) old)
