-- The first place in a block whose byte passes a test, by the mask of the lanes.
use Rattle.std.proofs.Common.{◌≡◌, ℕ, ◌+◌, ◌<◌, ◌≤◌, List, [], ◌∷◌, length, get_or, map, Bool, true, false, not, arith}
use Rattle.std.proofs.lemmas.Grind.{common_steps}
use Rattle.std.specs.List.{prefix_len}
use Rattle.std.specs.Simd.Lanes.{mask_l, chunk}
use Rattle.std.proofs.lemmas.Simd.{trailing_mask_l, length-chunk, run_in_chunk_fails, run_in_chunk_stops}
use lib.Count.{count_trailing_zeros}

module _ (p : ℕ → Bool) where
  prefix-short : (xs : List ℕ) → 0 < mask_l (map p xs) → prefix_len (λ x. not (p x)) xs < length xs
  prefix-short [] marked = absurd (omega arith)
  prefix-short (x ∷ xs) marked = grind (arith, common_steps, prefix-short xs)

  -- of the marks m of a block at least one is set
  module _ (text : List ℕ) (at m : ℕ) (inside : at + 16 ≤ length text) (marks : m ≡ mask_l (map p (chunk at 16 text))) (marked : 0 < m) where
    first-is : count_trailing_zeros 64 m ≡ prefix_len (λ x. not (p x)) (chunk at 16 text)
    first-is = rw marks (trailing_mask_l p 64 (chunk at 16 text) (omega (arith, length-chunk at 16 text inside)) (omega (arith, marks)))

    pub first-inside : count_trailing_zeros 64 m < 16
    first-inside = omega (arith, first-is, prefix-short (chunk at 16 text) (omega (arith, marks)), length-chunk at 16 text inside)

    pub first-passes : p (get_or text (at + count_trailing_zeros 64 m) 0) ≡ true
    first-passes = run_in_chunk_stops p text at 16 _ 0 inside first-is first-inside

    pub before-fails : (k : ℕ) → at ≤ k → k < at + count_trailing_zeros 64 m → p (get_or text k 0) ≡ false
    before-fails = run_in_chunk_fails p text at 16 _ 0 inside first-is
