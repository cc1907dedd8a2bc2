-- The free places and those in use, when one was moved.
use Rattle.std.proofs.Common.{◌≢◌, ℕ, ◌<◌, ◌≤◌, List, [], ◌∷◌, ◌++◌, sym, subst, arith, inl, inr, ◌⊎◌}
use Rattle.std.specs.Prelude.{Contains, ◌↔◌}
use Rattle.std.proofs.lemmas.Bool.Decides.{eqb_tells}
use Rattle.ip_lists.specs.Lists.{IsList}
use Rattle.ip_lists.specs.Moves.{without, IsMovedTo}
use Rattle.ip_lists.proofs.Lacking.{Lacks}
use Rattle.ip_lists.proofs.Filters.{without_keeps, without_has, moved_keeps, moved_has, moved_has_place}

-- The lists of two heads, which have the places below `n`.
pub record AreSplit (next : List ℕ) (n h k : ℕ) (xs ys : List ℕ) : Type 0 where
  pub high : n ≤ h
  pub other_high : n ≤ k
  pub apart : h ≢ k
  pub list : IsList next h xs
  pub other_list : IsList next k ys
  pub each : (p : ℕ) → (Contains xs p ⊎ Contains ys p) ↔ (p < n)

swap : (xs ys : List ℕ) (p : ℕ) → Contains xs p ⊎ Contains ys p → Contains ys p ⊎ Contains xs p
swap xs ys p c = elim c [ inl x ↦ inr x | inr y ↦ inl y ]

pub swapped : (next : List ℕ) (n h k : ℕ) (xs ys : List ℕ) → AreSplit next n h k xs ys → AreSplit next n k h ys xs
swapped next n h k xs ys split = record {
  high = split.other_high;
  other_high = split.high;
  apart = λ e. split.apart (sym e);
  list = split.other_list;
  other_list = split.list;
  each = λ p. (λ c. (split.each p).0 (swap ys xs p c), λ less. swap xs ys p ((split.each p).1 less));
}

pub lacks_high : (next : List ℕ) (n h k : ℕ) (xs ys : List ℕ) → AreSplit next n h k xs ys → (q : ℕ) → n ≤ q → Lacks xs q
lacks_high next n h k xs ys split q high = λ c. (let less : q < n = (split.each q).0 (inl c) in absurd (omega arith))

moved_each : (next : List ℕ) (n h k p : ℕ) (xs ys : List ℕ) → AreSplit next n h k xs ys → p < n → (q : ℕ) → q < n
    → Contains (without p xs) q ⊎ Contains (without p ys ++ p ∷ []) q
moved_each next n h k p xs ys split within q less = elim ((split.each q).1 less) [
  | inl x ↦ elim (eqb_tells q p) [
    | inl same ↦ inr (let P : ℕ → Type 0 = λ z. Contains (without p ys ++ p ∷ []) z in subst P (sym same.1) (moved_has_place p ys))
    | inr other ↦ inl (without_keeps p xs q other.1 x)
  ]
  | inr y ↦ inr (moved_keeps p ys q y)
]

moved_below : (next : List ℕ) (n h k p : ℕ) (xs ys : List ℕ) → AreSplit next n h k xs ys → p < n → (q : ℕ)
    → Contains (without p xs) q ⊎ Contains (without p ys ++ p ∷ []) q → q < n
moved_below next n h k p xs ys split within q c = elim c [
  | inl x ↦ (split.each q).0 (inl (without_has p xs q x).0)
  | inr y ↦ elim (moved_has p ys q y) [
    | inl same ↦ (let P : ℕ → Type 0 = λ z. z < n in subst P same within)
    | inr old ↦ (split.each q).0 (inr old.0)
  ]
]

-- A place goes to the end of the second list.
pub moved_second : (next new : List ℕ) (n h k p : ℕ) (xs ys : List ℕ) → AreSplit next n h k xs ys → p < n → IsMovedTo next new k p
    → AreSplit new n h k (without p xs) (without p ys ++ p ∷ [])
moved_second next new n h k p xs ys split within moved =
    let high : n ≤ h = split.high in
    record {
      high = split.high;
      other_high = split.other_high;
      apart = split.apart;
      list = moved.others h xs split.apart (λ e. absurd (omega arith)) (lacks_high next n h k xs ys split k split.other_high) split.list;
      other_list = moved.appended ys split.other_list;
      each = λ q. (moved_below next n h k p xs ys split within q, moved_each next n h k p xs ys split within q);
    }

-- A place goes to the end of the first list.
pub moved_first : (next new : List ℕ) (n h k p : ℕ) (xs ys : List ℕ) → AreSplit next n h k xs ys → p < n → IsMovedTo next new h p
    → AreSplit new n h k (without p xs ++ p ∷ []) (without p ys)
moved_first next new n h k p xs ys split within moved =
    swapped _ _ _ _ _ _ (moved_second next new n k h p ys xs (swapped _ _ _ _ _ _ split) within moved)
