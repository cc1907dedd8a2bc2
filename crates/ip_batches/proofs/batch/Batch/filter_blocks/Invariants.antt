use Rattle.std.proofs.Common.{◌≡◌, ◌++◌, ◌≤◌, ◌-◌, take, drop, length}
use Rattle.ip_batches.specs.Batch.{packets_at, matches_of}
use Rattle.ip_batches.proofs.batch.Batch.filter_blocks.Given as goal

-- the results before the index are stored
abbrev pub invariant-rounds : goal.invariant-rounds
invariant-rounds l = (l.first ≤ l.count) × (length l.matches ≡ length l.fn.matches)
    × (l.matches ≡ take l.first (matches_of l.filter (packets_at l.self.buffer.now l.self.spans.now)) ++ drop l.first l.fn.matches)

abbrev pub decreases-rounds : goal.decreases-rounds
decreases-rounds l = l.count - l.first
