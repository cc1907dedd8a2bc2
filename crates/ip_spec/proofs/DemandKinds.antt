-- The demands: none, at most this many headers, at most this many bytes, at most one header of one number.
use Rattle.ip_spec.proofs.Common.{◌≡◌, ℕ, ◌≤◌, List, [], ◌∷◌, length, take, rules, arith, inl, ◌⊎◌, AllByRecursion, length-append, take-append-drop, length-take, flat_map-append, common_steps, ExtHeader, bytes_of, IsLongestChain, IsDemand, IsLongestUnder, KeepsBeginning, AtMost, AtMostOneOf}
use Rattle.ip_spec.proofs.HeaderLemmas.{eq_or}
use Rattle.ip_spec.proofs.StepLemmas.{all_first}
use Rattle.ip_spec.proofs.UnderLemmas.{kept_is_longest}
pub use Rattle.ip_spec.proofs.UnderLemmas.{no_demand}

pub at_most : (k : ℕ) → IsDemand (AtMost k)
at_most k = search (rules, length-append)

-- the first k are kept
pub at_most_keeps : (k : ℕ) (d : List ExtHeader) → KeepsBeginning (AtMost k) d (take k d)
at_most_keeps k d = grind (arith, common_steps, take-append-drop k d, length-take)

-- so the longest chain of at most k headers is the first k of the longest
pub longest_at_most : (k n : ℕ) (s : List ℕ) (d : List ExtHeader) → IsLongestChain n s d → IsLongestUnder (AtMost k) n s (take k d)
longest_at_most k n s d l = kept_is_longest (AtMost k) (at_most k) n s d (take k d) l (at_most_keeps k d)

pub all_or : {X : Type 0} (P : X → Type 0) → ((x : X) → P x ⊎ (P x → ⊥)) → (c : List X) → AllByRecursion P c ⊎ (AllByRecursion P c → ⊥)
all_or P test [] = inl tt
all_or P test (x ∷ c) = grind (arith, common_steps, all_or P test c)

pub demand_all : {X : Type 0} (P : X → Type 0) → ((x : X) → P x ⊎ (P x → ⊥)) → IsDemand (AllByRecursion P)
demand_all P test = record { empty = tt; begins = all_first P; decided = all_or P test }

pub at_most_one_of : (m : ℕ) → IsDemand (AtMostOneOf m)
at_most_one_of m =
    let numbers = demand_all (λ (h : ExtHeader). h.number ≡ m) (λ h. eq_or h.number m) in
    search (rules, at_most 1)

-- at most j bytes; the number of bytes only grows
abbrev pub IsWithin : ℕ → List ExtHeader → Type 0
IsWithin j c = length (bytes_of c) ≤ j

pub within : (j : ℕ) → IsDemand (IsWithin j)
within j = search (rules, flat_map-append, length-append)
