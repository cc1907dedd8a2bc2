-- Demands on lists, and chains under a demand.
use Rattle.std.specs.Prelude.{◌≡◌, ℕ, ◌≤◌, List, [], ◌∷◌, ◌++◌, length, ⊤, Bool, IsTrue, ◌⊎◌}
use Rattle.std.specs.List.{AllByRecursion}
use Rattle.ip_spec.specs.LongestOf.{IsLongestOf}
use Rattle.ip_spec.specs.Chain.{ExtHeader, is_empty, IsPrefixChain, IsNext}

-- Q is a demand: the empty list meets it, each prefix of a list that meets it does, and it is decidable whether a
-- list does
pub record IsDemand {X : Type 0} (Q : List X → Type 0) : Type 0 where
  pub empty : Q []
  pub begins : (c d : List X) → Q (c ++ d) → Q c
  pub decided : (c : List X) → Q c ⊎ (Q c → ⊥)

-- the first element of `rest`, if there is one, breaks the demand Q after c
abbrev pub NextBreaks : {X : Type 0} → (List X → Type 0) → List X → List X → Type 0
NextBreaks Q c [] = ⊤
NextBreaks Q c (x ∷ rest) = Q (c ++ x ∷ []) → ⊥

-- The demand Q keeps c of the list d: a prefix of d that meets it, which is all of d, or after which the next element
-- of d breaks it.
pub record KeepsBeginning {X : Type 0} (Q : List X → Type 0) (d c : List X) : Type 0 where
  pub rest : List X
  pub joined : d ≡ c ++ rest
  pub meets : Q c
  pub breaks : NextBreaks Q c rest

-- the chain from n at the start of s that meets the demand Q and is longer than any other
abbrev pub IsLongestUnder : (List ExtHeader → Type 0) → ℕ → List ℕ → List ExtHeader → Type 0
IsLongestUnder Q n s c = IsLongestOf (λ d. IsPrefixChain n s d × Q d) c

-- after c, no header of number m at bytes r follows that still meets the demand Q
abbrev pub IsEndUnder : (List ExtHeader → Type 0) → List ExtHeader → ℕ → List ℕ → Type 0
IsEndUnder Q c m r = (h : ExtHeader) → IsNext (is_empty c) m r h → Q (c ++ h ∷ []) → ⊥

-- every list of headers meets it
abbrev pub NoDemand : List ExtHeader → Type 0
NoDemand c = ⊤

-- at most k headers
abbrev pub AtMost : ℕ → List ExtHeader → Type 0
AtMost k c = length c ≤ k

-- at most one header, and it is of number m
pub record AtMostOneOf (m : ℕ) (c : List ExtHeader) : Type 0 where
  pub one : length c ≤ 1
  pub number : AllByRecursion (λ h. h.number ≡ m) c

-- the test q returns true
abbrev pub Passes : {X : Type 0} → (List X → Bool) → List X → Type 0
Passes q c = IsTrue (q c)
