use Rattle.std.proofs.Common.{◌≡◌, ℕ, ◌<◌, get_or}
use Rattle.ip_key_counts.proofs.key_counts.clear_all.Given as goal

abbrev pub invariant-loop-link : goal.invariant-loop-link
invariant-loop-link l = (b : ℕ) → b < l.link-index → get_or l.newest b 0 ≡ 0
