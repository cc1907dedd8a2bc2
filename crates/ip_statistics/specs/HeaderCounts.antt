-- Extension headers by their numbers.
use Rattle.std.specs.Prelude.{◌≡◌, ℕ, ◌==◌, List, [], length}
use Rattle.std.specs.List.{count_by}
use Rattle.ip_spec.specs.Chain.{ExtHeader}
use Rattle.ip_statistics.specs.Counts.{all_added, each_below}

-- for each number, how many headers have it
abbrev pub number_counts : List ExtHeader → List ℕ
number_counts c = each_below 256 (λ n. count_by (λ h. h.number == n) c)

-- a count for each number, of at most 64 bits: no header adds nothing to it
pub record AreCounts (xs : List ℕ) : Type 0 where
  pub len : length xs ≡ 256
  pub none : xs ≡ all_added xs (number_counts [])
