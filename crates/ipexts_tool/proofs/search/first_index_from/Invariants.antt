use Rattle.std.proofs.Common.{◌≡◌, ℕ, ◌<◌, ◌≤◌, get_or}
use Rattle.ipexts_tool.proofs.search.first_index_from.Given as goal

-- the byte is at no place looked at
abbrev pub invariant-loop-index : goal.invariant-loop-index
invariant-loop-index l = (k : ℕ) → l.from ≤ k → k < l.index → get_or l.text k 0 ≡ l.byte → ⊥
