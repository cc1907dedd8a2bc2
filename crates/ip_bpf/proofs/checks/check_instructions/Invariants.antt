use Rattle.std.proofs.Common.{◌≡◌, ℕ, ◌<◌, None}
use Rattle.ip_bpf.specs.Programs.{error_at}
use Rattle.ip_bpf.proofs.checks.check_instructions.Given as goal

-- nothing is wrong with the instructions so far
abbrev pub invariant-loop-index : goal.invariant-loop-index
invariant-loop-index l = (p : ℕ) → p < l.index → error_at l.program p ≡ None
