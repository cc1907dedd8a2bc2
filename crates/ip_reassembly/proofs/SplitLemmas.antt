-- The fragments of a payload that was split.
use Rattle.ip_reassembly.proofs.Common.{◌≡◌, ℕ, ◌+◌, ◌-◌, ◌%◌, ◌≤◌, ◌<◌, max, min, true, false, not, ◌&&◌, List, [], ◌∷◌, take, drop, length, get_or, ◌⊎◌, refl, sym, ap, ◌∙◌, subst, inl, inr, arith, ltb, ltb-true, cases_lt, and_parts, or_cases, or_from, or_left, or_right, both_ways, not-true, not_from_true, ne_eqb, eq-eqb, ◌==◌, false_from_ne_true, list_any, Fragment, end_of, is_in, is_same, overlaps, has_two_ends, is_unaligned}
use Rattle.std.proofs.lemmas.List.{length-take-le, length-drop, get_or-take, get_or-drop}
use Rattle.ip_reassembly.specs.Split.{SplitsFrom}
use Rattle.ip_reassembly.proofs.FragmentLemmas.{same_is, is_same_self, is_in_bounds, overlap_bounds, overlaps_sym}

-- one of the fragments of the rest of a payload from an offset on
pub record IsPiece (offset : ℕ) (rest : List ℕ) (g : Fragment) : Type 0 where
  pub low : offset ≤ g.offset
  pub high : end_of g ≤ offset + length rest
  pub units : offset % 8 ≡ 0 → g.offset % 8 ≡ 0
  pub aligned : is_unaligned g ≡ false
  pub last : g.more ≡ false → end_of g ≡ offset + length rest
  pub some : g.more ≡ true → 0 < length g.bytes
  pub bytes : (i : ℕ) → g.offset ≤ i → i < end_of g → get_or g.bytes (i - g.offset) 0 ≡ get_or rest (i - offset) 0

last_piece : (offset : ℕ) (rest : List ℕ) (g : Fragment) → g ≡ record { offset = offset; more = false; bytes = rest } → IsPiece offset rest g
last_piece offset rest g e = subst (IsPiece offset rest) (sym e) (record {
  low = omega arith;
  high = omega arith;
  units = λ u. u;
  aligned = refl;
  last = λ l. refl;
  some = λ more. absurd (both_ways false refl more);
  bytes = λ i low high. refl;
})

first_piece : (offset n : ℕ) (rest : List ℕ) (g : Fragment) → 0 < n → n ≤ length rest → n % 8 ≡ 0 → g ≡ record { offset = offset; more = true; bytes = take n rest } → IsPiece offset rest g × (end_of g ≡ offset + n)
first_piece offset n rest g positive within units e =
    let f : Fragment = record { offset = offset; more = true; bytes = take n rest } in
    let len : length (take n rest) ≡ n = length-take-le n rest within in
    let end : end_of f ≡ offset + n = omega (arith, len) in
    let piece : IsPiece offset rest f = record {
      low = omega arith;
      high = omega (arith, end, within);
      units = λ u. u;
      aligned = or_from (length (take n rest) == 0) (not (length (take n rest) % 8 == 0)) (ne_eqb (length (take n rest)) 0 (λ z. omega (arith, z, len, positive))) (not_from_true (length (take n rest) % 8 == 0) (eq-eqb (length (take n rest) % 8) 0 (ap (λ (k : ℕ). k % 8) len ∙ units)));
      last = λ l. absurd (both_ways true l refl);
      some = λ more. omega (arith, len, positive);
      bytes = λ i low high. get_or-take n rest (i - offset) 0 (omega (arith, high, end, low));
    } in
    (subst (IsPiece offset rest) (sym e) piece, subst (λ (h : Fragment). end_of h ≡ offset + n) (sym e) end)

later_piece : (offset n : ℕ) (rest : List ℕ) (g : Fragment) → n ≤ length rest → n % 8 ≡ 0 → IsPiece (offset + n) (drop n rest) g → IsPiece offset rest g
later_piece offset n rest g within units p =
    let len : length (drop n rest) ≡ length rest - n = length-drop n rest in
    record {
      low = omega (arith, p.low);
      high = omega (arith, p.high, len, within);
      units = λ u. p.units (omega (arith, u, units));
      aligned = p.aligned;
      last = λ l. omega (arith, p.last l, len, within);
      some = p.some;
      bytes = λ i low high. p.bytes i low high ∙ (get_or-drop n rest (i - (offset + n)) 0 ∙ ap (λ (k : ℕ). get_or rest k 0) (let e : n + (i - (offset + n)) ≡ i - offset = omega (arith, low, p.low) in e));
    }

-- Each of the fragments is one.
pub member_piece : (offset : ℕ) (rest : List ℕ) (fs : List Fragment) (g : Fragment) → SplitsFrom offset rest fs → list_any (is_same g) fs ≡ true → IsPiece offset rest g
member_piece offset rest [] g split among = absurd split
member_piece offset rest (f ∷ []) g split among = elim (or_cases (is_same g f) false among) [
  | inl same ↦ last_piece offset rest g (same_is g f same ∙ split)
  | inr none ↦ absurd (both_ways false refl none)
]
member_piece offset rest (f ∷ h ∷ hs) g (n, positive, within, units, e, split) among = elim (or_cases (is_same g f) (list_any (is_same g) (h ∷ hs)) among) [
  | inl same ↦ (first_piece offset n rest g positive within units (same_is g f same ∙ e)).0
  | inr later ↦ later_piece offset n rest g within units (member_piece (offset + n) (drop n rest) (h ∷ hs) g split later)
]

-- Two of them that overlap are one, and so are two last ones.
pub pieces_apart : (offset : ℕ) (rest : List ℕ) (fs : List Fragment) (a b : Fragment) → SplitsFrom offset rest fs → list_any (is_same a) fs ≡ true → list_any (is_same b) fs ≡ true → (overlaps a b ≡ true) ⊎ ((a.more ≡ false) × (b.more ≡ false)) → a ≡ b
pieces_apart offset rest [] a b split in_a in_b both = absurd split
pieces_apart offset rest (f ∷ []) a b split in_a in_b both = elim (or_cases (is_same a f) false in_a) [
  | inr none ↦ absurd (both_ways false refl none)
  | inl same_a ↦ elim (or_cases (is_same b f) false in_b) [
    | inr none ↦ absurd (both_ways false refl none)
    | inl same_b ↦ same_is a f same_a ∙ sym (same_is b f same_b)
  ]
]
pieces_apart offset rest (f ∷ h ∷ hs) a b (n, positive, within, units, e, split) in_a in_b both = elim (or_cases (is_same a f) (list_any (is_same a) (h ∷ hs)) in_a) [
  | inl same_a ↦ elim (or_cases (is_same b f) (list_any (is_same b) (h ∷ hs)) in_b) [
    | inl same_b ↦ same_is a f same_a ∙ sym (same_is b f same_b)
    | inr later ↦ absurd (first_apart offset n rest a b positive within units (same_is a f same_a ∙ e) (member_piece (offset + n) (drop n rest) (h ∷ hs) b split later) both)
  ]
  | inr later_a ↦ elim (or_cases (is_same b f) (list_any (is_same b) (h ∷ hs)) in_b) [
    | inl same_b ↦ absurd (first_apart offset n rest b a positive within units (same_is b f same_b ∙ e) (member_piece (offset + n) (drop n rest) (h ∷ hs) a split later_a) (elim both [ inl o ↦ inl (overlaps_sym a b o) | inr l ↦ inr (l.1, l.0) ]))
    | inr later_b ↦ pieces_apart (offset + n) (drop n rest) (h ∷ hs) a b split later_a later_b both
  ]
] where
  first_apart : (offset n : ℕ) (rest : List ℕ) (a b : Fragment) → 0 < n → n ≤ length rest → n % 8 ≡ 0 → a ≡ record { offset = offset; more = true; bytes = take n rest } → IsPiece (offset + n) (drop n rest) b → (overlaps a b ≡ true) ⊎ ((a.more ≡ false) × (b.more ≡ false)) → ⊥
  first_apart offset n rest a b positive within units e p both = elim both [
    | inl o ↦ let end : end_of a ≡ offset + n = (first_piece offset n rest a positive within units e).1 in let x : max a.offset b.offset < min (end_of a) (end_of b) = overlap_bounds a b o in omega (arith, end, x, p.low)
    | inr l ↦ both_ways a.more l.0 (ap (λ (h : Fragment). h.more) e)
  ]

-- None of them has two ends with another.
pub pieces_end : (offset : ℕ) (rest : List ℕ) (a b : Fragment) → IsPiece offset rest a → IsPiece offset rest b → has_two_ends a b ≡ false
pieces_end offset rest a b p q = or_from (not a.more && ltb (end_of a) (end_of b)) (not b.more && ltb (end_of b) (end_of a))
    (false_from_ne_true (not a.more && ltb (end_of a) (end_of b)) (λ e. let x = and_parts (not a.more) (ltb (end_of a) (end_of b)) e in omega (arith, ltb-true (end_of a) (end_of b) x.1, p.last (not-true a.more x.0), q.high)))
    (false_from_ne_true (not b.more && ltb (end_of b) (end_of a)) (λ e. let x = and_parts (not b.more) (ltb (end_of b) (end_of a)) e in omega (arith, ltb-true (end_of b) (end_of a) x.1, q.last (not-true b.more x.0), p.high)))

-- One of them is last.
pub record HasLast (fs : List Fragment) : Type 0 where
  pub one : Fragment
  pub among : list_any (is_same one) fs ≡ true
  pub last : one.more ≡ false

pub split_has_last : (offset : ℕ) (rest : List ℕ) (fs : List Fragment) → SplitsFrom offset rest fs → HasLast fs
split_has_last offset rest [] split = absurd split
split_has_last offset rest (f ∷ []) split = record { one = f; among = or_left (is_same f f) false (is_same_self f); last = ap (λ (h : Fragment). h.more) split }
split_has_last offset rest (f ∷ h ∷ hs) (n, positive, within, units, e, split) =
    let there = split_has_last (offset + n) (drop n rest) (h ∷ hs) split in
    record { one = there.one; among = or_right (is_same there.one f) (list_any (is_same there.one) (h ∷ hs)) there.among; last = there.last }

-- Each byte is in one of them.
pub record HasByte (fs : List Fragment) (i : ℕ) : Type 0 where
  pub one : Fragment
  pub among : list_any (is_same one) fs ≡ true
  pub inside : is_in one i ≡ true

pub split_has_byte : (offset : ℕ) (rest : List ℕ) (fs : List Fragment) (i : ℕ) → SplitsFrom offset rest fs → offset ≤ i → i < offset + length rest → HasByte fs i
split_has_byte offset rest [] i split low high = absurd split
split_has_byte offset rest (f ∷ []) i split low high = record {
  one = f;
  among = or_left (is_same f f) false (is_same_self f);
  inside = subst (λ (h : Fragment). is_in h i ≡ true) (sym split) (is_in_bounds (record { offset = offset; more = false; bytes = rest }) i low high);
}
split_has_byte offset rest (f ∷ h ∷ hs) i (n, positive, within, units, e, split) low high = elim (cases_lt i (offset + n)) [
  | inl here ↦
      let first = first_piece offset n rest f positive within units e in
      record {
        one = f;
        among = or_left (is_same f f) (list_any (is_same f) (h ∷ hs)) (is_same_self f);
        inside = is_in_bounds f i (omega (arith, ap (λ (k : Fragment). k.offset) e, low)) (omega (arith, first.1, here));
      }
  | inr later ↦
      let there = split_has_byte (offset + n) (drop n rest) (h ∷ hs) i split later (omega (arith, high, length-drop n rest, within)) in
      record { one = there.one; among = or_right (is_same there.one f) (list_any (is_same there.one) (h ∷ hs)) there.among; inside = there.inside }
]
