use Rattle.std.proofs.Common.{◌≡◌, ℕ, ◌<◌, get_or, cond, eqb}
use Rattle.std.specs.Int.{bit_at}
use Rattle.ip_bpf.proofs.memory.mark_start.Given as goal

-- the places so far are marked
abbrev pub invariant-loop-place : goal.invariant-loop-place
invariant-loop-place l = (p k : ℕ) → p < l.place → k < 16 → bit_at (get_or l.unwritten p 0) k ≡ cond (eqb p 0) 1 0
