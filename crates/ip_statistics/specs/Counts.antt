-- Counts that stop at the largest 64-bit number, and lists of counts.
use Rattle.std.specs.Prelude.{ℕ, ◌+◌, ◌-◌, ◌^◌, min, List, [], ◌∷◌, map, Bool, if◌then◌else◌}
use Rattle.std.specs.List.{range_with_len}

-- the sum of two counts
abbrev pub added : ℕ → ℕ → ℕ
added a b = min (a + b) (2 ^ 64 - 1)

-- the sums of two lists of counts, place by place
unfoldable pub all_added : List ℕ → List ℕ → List ℕ
all_added [] ys = []
all_added (x ∷ xs) [] = []
all_added (x ∷ xs) (y ∷ ys) = added x y ∷ all_added xs ys

-- f at each number below n, in order
unfoldable pub each_below : ℕ → (ℕ → ℕ) → List ℕ
each_below n f = map f (range_with_len 0 n)

-- 1 if the test holds, otherwise 0
abbrev pub one_if : Bool → ℕ
one_if b = if b then 1 else 0
