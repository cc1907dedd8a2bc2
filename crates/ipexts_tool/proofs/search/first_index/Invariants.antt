use Rattle.std.proofs.Common.{◌≡◌, ◌-◌, ℕ, ◌<◌, ◌≤◌, length, get_or}
use Rattle.ipexts_tool.proofs.search.first_index.Given as goal

-- the byte is at no place before this block
abbrev pub invariant-search : goal.invariant-search
invariant-search l = record {
  inside : l.at ≤ length l.text;
  before : (k : ℕ) → k < l.at → get_or l.text k 0 ≡ l.byte → ⊥;
}

abbrev pub decreases-search : goal.decreases-search
decreases-search l = length l.text - l.at
