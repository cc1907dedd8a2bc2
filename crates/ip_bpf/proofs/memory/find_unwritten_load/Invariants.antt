use Rattle.std.proofs.Common.{◌≡◌, ◌↔◌, ℕ, ◌<◌, ◌≤◌, length, get_or}
use Rattle.std.specs.Int.{bit_at}
use Rattle.ip_bpf.proofs.MemoryLemmas.{IsReached}
use Rattle.ip_bpf.specs.Programs.{LoadsUnwritten}
use Rattle.ip_bpf.proofs.memory.find_unwritten_load.Given as goal

-- no load so far is of a word that isn't written, and the marks are those of the paths from the places so far
abbrev pub invariant-places : goal.invariant-places
invariant-places l = record {
  len : length l.unwritten ≡ length l.program;
  none : (p : ℕ) → p < l.place → ¬ LoadsUnwritten l.program p;
  marks : (p k : ℕ) → l.place ≤ p → p < length l.program → k < 16 → (bit_at (get_or l.unwritten p 0) k ≡ 1) ↔ IsReached l.program k l.place p;
}
