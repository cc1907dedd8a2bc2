use Rattle.std.proofs.Common.{◌≡◌, ℕ, ◌<◌, ◌≤◌, get_or, Fits, w64}
use Rattle.ip_statistics.specs.Counts.{added}
use Rattle.ip_statistics.proofs.counts.add_all.Given as goal

-- the counts before the index are sums, and the others are as they were
abbrev pub invariant-counts : goal.invariant-counts
invariant-counts l = record {
  fits : (k : ℕ) → Fits w64 (get_or l.fn.counts k 0);
  done : (k : ℕ) → k < l.i → get_or l.counts k 0 ≡ added (get_or l.fn.counts k 0) (get_or l.other k 0);
  left : (k : ℕ) → l.i ≤ k → get_or l.counts k 0 ≡ get_or l.fn.counts k 0;
}
