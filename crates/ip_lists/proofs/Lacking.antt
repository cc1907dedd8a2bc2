-- Places that aren't among others.
use Rattle.std.proofs.Common.{◌≡◌, ◌≢◌, ℕ, ◌<◌, List, [], ◌∷◌, length, get_or, suc, zero, arith}
use Rattle.std.specs.Prelude.{Contains}

-- The place is none of these.
abbrev pub Lacks : List ℕ → ℕ → Type 0
Lacks xs p = Contains xs p → ⊥

pub lacks_head : (x p : ℕ) (xs : List ℕ) → Lacks (x ∷ xs) p → x ≢ p
lacks_head x p xs none = λ e. none (0, omega arith, e)

pub lacks_tail : (x p : ℕ) (xs : List ℕ) → Lacks (x ∷ xs) p → Lacks xs p
lacks_tail x p xs none = λ c. none (suc c.0, (let within : c.0 < length xs = c.1 in omega arith), c.2)

lacks_at : (x p : ℕ) (xs : List ℕ) → x ≢ p → Lacks xs p → (k : ℕ) → k < length (x ∷ xs) → get_or (x ∷ xs) k p ≡ p → ⊥
lacks_at x p xs head tail zero within is = head is
lacks_at x p xs head tail (suc k) within is = tail (k, omega arith, is)

pub lacks_cons : (x p : ℕ) (xs : List ℕ) → x ≢ p → Lacks xs p → Lacks (x ∷ xs) p
lacks_cons x p xs head tail = λ c. lacks_at x p xs head tail c.0 c.1 c.2

pub lacks_none : (p : ℕ) → Lacks [] p
lacks_none p = λ c. absurd (omega arith)
