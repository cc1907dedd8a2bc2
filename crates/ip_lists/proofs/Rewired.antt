-- An array of links after two writes.
use Rattle.std.proofs.Common.{◌≡◌, ◌≢◌, ℕ, ◌<◌, List, [], ◌∷◌, length, refl, ap, ◌∙◌, suc, zero, arith, set}
use Rattle.std.specs.Prelude.{slice_get, Some}
use Rattle.std.proofs.lemmas.List.{length-set}

pub slice_get-set_same : (xs : List ℕ) (i v : ℕ) → i < length xs → slice_get (set xs i v) i ≡ Some v
slice_get-set_same [] i v within = absurd (omega arith)
slice_get-set_same (x ∷ xs) zero v within = refl
slice_get-set_same (x ∷ xs) (suc i) v within = slice_get-set_same xs i v (omega arith)

pub slice_get-set_other : (xs : List ℕ) (i j v : ℕ) → j ≢ i → slice_get (set xs i v) j ≡ slice_get xs j
slice_get-set_other [] i j v other = refl
slice_get-set_other (x ∷ xs) zero zero v other = absurd (other refl)
slice_get-set_other (x ∷ xs) zero (suc j) v other = refl
slice_get-set_other (x ∷ xs) (suc i) zero v other = refl
slice_get-set_other (x ∷ xs) (suc i) (suc j) v other = slice_get-set_other xs i j v (λ e. other (ap suc e))

-- the links after `v` was written at `a`, and then `w` at `p`
abbrev pub rewired : List ℕ → ℕ → ℕ → ℕ → ℕ → List ℕ
rewired xs a v p w = set (set xs a v) p w

pub length_rewired : (xs : List ℕ) (a v p w : ℕ) → length (rewired xs a v p w) ≡ length xs
length_rewired xs a v p w = length-set (set xs a v) p w ∙ length-set xs a v

pub at_second : (xs : List ℕ) (a v p w : ℕ) → p < length xs → slice_get (rewired xs a v p w) p ≡ Some w
at_second xs a v p w within = slice_get-set_same (set xs a v) p w (rw (length-set xs a v) within)

pub at_first : (xs : List ℕ) (a v p w : ℕ) → a ≢ p → a < length xs → slice_get (rewired xs a v p w) a ≡ Some v
at_first xs a v p w other within = slice_get-set_other (set xs a v) p a w other ∙ slice_get-set_same xs a v within

pub at_others : (xs : List ℕ) (a v p w s : ℕ) → s ≢ p → s ≢ a → slice_get (rewired xs a v p w) s ≡ slice_get xs s
at_others xs a v p w s second first = slice_get-set_other (set xs a v) p s w second ∙ slice_get-set_other xs a s v first
