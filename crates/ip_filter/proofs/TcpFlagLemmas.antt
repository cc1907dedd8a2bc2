-- The names of a list of flags.
use Rattle.std.proofs.Common.{Some, None, suc, ◌+◌}
use Rattle.ip_spec.proofs.Common.{◌≡◌, ℕ, ◌≤◌, List, [], ◌∷◌, length, take, drop, refl, ap, ◌∙◌, arith, common_steps, nat_tests, inl, inr, cases_eq, ◌<◌, ◌==◌, false, drop_all, length-drop}
use Rattle.std.specs.Prelude.{bit_or}
use Rattle.ip_filter.specs.Words.{Word}
use Rattle.ip_filter.specs.Numbers.{index_of, names_in, with_letter, with_flags, tcp_flag_of}

-- the first name, and those after a comma
abbrev names_of : List ℕ → List ℕ → List Word
names_of name [] = name ∷ []
names_of name (comma ∷ w) = name ∷ names_in w

one_letter : (c : ℕ) (name w : List ℕ) → with_letter c (names_of name w) ≡ names_of (c ∷ name) w
one_letter c name [] = refl
one_letter c name (comma ∷ w) = refl

first_name : (w : List ℕ) → names_in w ≡ names_of (take (index_of 44 w) w) (drop (index_of 44 w) w)
unfolding names_in
first_name [] = refl
first_name (c ∷ w) = elim (cases_eq c 44) [
  | inl is ↦ rw is refl
  | inr other ↦
      let differs : (c == 44) ≡ false = grind (arith, common_steps, nat_tests, other) in
      let longer : 1 + index_of 44 w ≡ suc (index_of 44 w) = omega arith in
      rw (differs, longer, first_name w) (one_letter c (take (index_of 44 w) w) (drop (index_of 44 w) w))
]

-- the flags f, and those of a list whose first name has the length i
module _ (f i : ℕ) (w : List ℕ) (at : i ≡ index_of 44 w) where
  named : with_flags f (names_in w) ≡ with_flags f (names_of (take i w) (drop i w))
  named = rw at (ap (with_flags f) (first_name w))

  one_name : (bit : ℕ) (rest : List ℕ) → rest ≡ [] → tcp_flag_of (take i w) ≡ Some bit → with_flags f (names_of (take i w) rest) ≡ Some (bit_or f bit)
  one_name bit rest none is = rw (none, is) refl

  more_names : (bit : ℕ) (rest : List ℕ) → 0 < length rest → tcp_flag_of (take i w) ≡ Some bit → with_flags f (names_of (take i w) rest) ≡ with_flags (bit_or f bit) (names_in (drop 1 rest))
  more_names bit [] some is = absurd (omega (arith, some))
  more_names bit (comma ∷ rest) some is = rw is refl

  no_names : (rest : List ℕ) → tcp_flag_of (take i w) ≡ None → with_flags f (names_of (take i w) rest) ≡ None
  no_names [] is = rw is refl
  no_names (comma ∷ rest) is = rw is refl

  pub last_name : (bit : ℕ) → length w ≤ i → tcp_flag_of (take i w) ≡ Some bit → with_flags f (names_in w) ≡ Some (bit_or f bit)
  last_name bit past is = named ∙ one_name bit (drop i w) (drop_all i w past) is

  pub next_name : (bit : ℕ) → i < length w → tcp_flag_of (take i w) ≡ Some bit → with_flags f (names_in w) ≡ with_flags (bit_or f bit) (names_in (drop 1 (drop i w)))
  next_name bit inside is = named ∙ more_names bit (drop i w) (omega (arith, length-drop i w)) is

  pub other_name : tcp_flag_of (take i w) ≡ None → with_flags f (names_in w) ≡ None
  other_name is = named ∙ no_names (drop i w) is
