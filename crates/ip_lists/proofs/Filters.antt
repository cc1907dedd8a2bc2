-- What is among some of the places.
use Rattle.std.proofs.Common.{◌≡◌, ◌≢◌, ℕ, ◌<◌, List, [], ◌∷◌, ◌++◌, Bool, true, false, length, get_or, refl, sym, ap, ◌∙◌, subst, suc, zero, arith, inl, inr, eqb, eq-eqb, cond, ◌⊎◌}
use Rattle.std.specs.Prelude.{Contains, not}
use Rattle.std.specs.List.{filter}
use Rattle.std.proofs.lemmas.Bool.{ne_eqb, false≢true}
use Rattle.std.proofs.lemmas.Bool.Decides.{eqb_tells}
use Rattle.std.proofs.lemmas.List.Elements.{Contains-append_left, Contains-append_right, Contains-append_cases}
use Rattle.ip_lists.specs.Moves.{without}
use Rattle.ip_lists.proofs.Lacking.{lacks_none}

pub has_head : (x : ℕ) (xs : List ℕ) → Contains (x ∷ xs) x
has_head x xs = (0, omega arith, refl)

pub has_tail : (x p : ℕ) (xs : List ℕ) → Contains xs p → Contains (x ∷ xs) p
has_tail x p xs c = (suc c.0, (let within : c.0 < length xs = c.1 in omega arith), c.2)

cases_at : (x p : ℕ) (xs : List ℕ) (k : ℕ) → k < length (x ∷ xs) → get_or (x ∷ xs) k p ≡ p → (x ≡ p) ⊎ Contains xs p
cases_at x p xs zero within is = inl is
cases_at x p xs (suc k) within is = inr (k, omega arith, is)

pub has_cases : (x p : ℕ) (xs : List ℕ) → Contains (x ∷ xs) p → (x ≡ p) ⊎ Contains xs p
has_cases x p xs c = cases_at x p xs c.0 c.1 c.2

pub has_one : (x p : ℕ) → Contains (x ∷ []) p → x ≡ p
has_one x p c = elim (has_cases x p [] c) [ inl same ↦ same | inr none ↦ absurd (lacks_none p none) ]

keeps_by : (b : Bool) (x q : ℕ) (xs fs : List ℕ) → (x ≡ q → b ≡ true) → (Contains xs q → Contains fs q) → Contains (x ∷ xs) q → Contains (cond b (x ∷ fs) fs) q
keeps_by true x q xs fs here rest c = elim (has_cases x q xs c) [
  | inl same ↦ (0, omega arith, same)
  | inr later ↦ has_tail x q fs (rest later)
]
keeps_by false x q xs fs here rest c = elim (has_cases x q xs c) [
  | inl same ↦ absurd (false≢true (here same))
  | inr later ↦ rest later
]

pub filter_keeps : (t : ℕ → Bool) (xs : List ℕ) (q : ℕ) → t q ≡ true → Contains xs q → Contains (filter t xs) q
filter_keeps t [] q is c = c
filter_keeps t (x ∷ xs) q is c = keeps_by (t x) x q xs (filter t xs) (λ e. ap t e ∙ is) (filter_keeps t xs q is) c

has_by : (b u : Bool) (x q : ℕ) (xs fs : List ℕ) → (x ≡ q → b ≡ u) → (Contains fs q → Contains xs q × (u ≡ true)) → Contains (cond b (x ∷ fs) fs) q → Contains (x ∷ xs) q × (u ≡ true)
has_by true u x q xs fs here rest c = elim (has_cases x q fs c) [
  | inl same ↦ ((0, omega arith, same), sym (here same))
  | inr later ↦ (has_tail x q xs (rest later).0, (rest later).1)
]
has_by false u x q xs fs here rest c = (has_tail x q xs (rest c).0, (rest c).1)

pub filter_has : (t : ℕ → Bool) (xs : List ℕ) (q : ℕ) → Contains (filter t xs) q → Contains xs q × (t q ≡ true)
filter_has t [] q c = absurd (lacks_none q c)
filter_has t (x ∷ xs) q c = has_by (t x) (t q) x q xs (filter t xs) (λ e. ap t e) (filter_has t xs q) c

pub without_keeps : (p : ℕ) (xs : List ℕ) (q : ℕ) → q ≢ p → Contains xs q → Contains (without p xs) q
without_keeps p xs q other c = filter_keeps (λ x. not (eqb x p)) xs q (ap not (ne_eqb q p other)) c

pub without_has : (p : ℕ) (xs : List ℕ) (q : ℕ) → Contains (without p xs) q → Contains xs q × (q ≢ p)
without_has p xs q c =
    let both = filter_has (λ x. not (eqb x p)) xs q c in
    (both.0, λ e. false≢true (sym (ap not (eq-eqb q p e)) ∙ both.1))

-- What is among the places when one of them was moved to the end.
pub moved_keeps : (p : ℕ) (xs : List ℕ) (q : ℕ) → Contains xs q → Contains (without p xs ++ p ∷ []) q
moved_keeps p xs q c = elim (eqb_tells q p) [
  | inl same ↦ (let P : ℕ → Type 0 = λ x. Contains (without p xs ++ p ∷ []) x in subst P (sym same.1) (Contains-append_right (without p xs) (p ∷ []) p (has_head p [])))
  | inr other ↦ Contains-append_left (without p xs) (p ∷ []) q (without_keeps p xs q other.1 c)
]

pub moved_has_place : (p : ℕ) (xs : List ℕ) → Contains (without p xs ++ p ∷ []) p
moved_has_place p xs = Contains-append_right (without p xs) (p ∷ []) p (has_head p [])

pub moved_has : (p : ℕ) (xs : List ℕ) (q : ℕ) → Contains (without p xs ++ p ∷ []) q → (p ≡ q) ⊎ (Contains xs q × (q ≢ p))
moved_has p xs q c = elim (Contains-append_cases (without p xs) (p ∷ []) q c) [
  | inl old ↦ inr (without_has p xs q old)
  | inr own ↦ inl (has_one p q own)
]
