-- Fragments by themselves, and two of them.
use Rattle.ip_reassembly.proofs.Common.{subst, list_any, ◌≡◌, ℕ, ◌%◌, ◌≤◌, ◌<◌, ◌==◌, ◌||◌, not, or_parts, both_ways, not-false, eqb-false, is_unaligned, max, min, Bool, true, false, length, ◌⊎◌, ltb-true, ltb-false, lt-ltb, leb-true, leb-false, le-leb, and_parts, and_from, and_cases, refl, ap, inl, inr, eq-eqb, eqb-true, arith, ◌&&◌, eqb, beq, bytes_eq, List, ◌∙◌, Fragment, end_of, is_in, is_same, overlaps}
use Rattle.std.specs.Cmp.{booleans_Decides}
use Rattle.std.proofs.lemmas.Slice.Eq.{bytes_eq-Decides}

-- Fragments are equal if their parts are.
same_parts : (a b : ℕ) (m n : Bool) (s t : List ℕ) → a ≡ b → m ≡ n → s ≡ t → (let f : Fragment = record { offset = a; more = m; bytes = s } in f) ≡ record { offset = b; more = n; bytes = t }
same_parts a b m n s t p q r = ap (λ (i : ℕ). let f : Fragment = record { offset = i; more = m; bytes = s } in f) p ∙ ap (λ (l : Bool). let f : Fragment = record { offset = b; more = l; bytes = s } in f) q ∙ ap (λ (u : List ℕ). let f : Fragment = record { offset = b; more = n; bytes = u } in f) r

-- Fragments are equal exactly if the test says so.
pub same_is : (f g : Fragment) → is_same f g ≡ true → f ≡ g
same_is f g h =
    let both = and_parts (eqb f.offset g.offset && beq f.more g.more) (bytes_eq f.bytes g.bytes) h in
    let first = and_parts (eqb f.offset g.offset) (beq f.more g.more) both.0 in
    let offsets : f.offset ≡ g.offset = eqb-true f.offset g.offset first.0 in
    let flags : f.more ≡ g.more = (booleans_Decides f.more g.more).0 first.1 in
    let bytes : f.bytes ≡ g.bytes = (bytes_eq-Decides f.bytes g.bytes).0 both.1 in
    same_parts f.offset g.offset f.more g.more f.bytes g.bytes offsets flags bytes

pub is_same_self : (f : Fragment) → is_same f f ≡ true
is_same_self f = and_from (eqb f.offset f.offset && beq f.more f.more) (bytes_eq f.bytes f.bytes)
    (and_from (eqb f.offset f.offset) (beq f.more f.more) (eq-eqb f.offset f.offset refl) ((booleans_Decides f.more f.more).1 refl))
    ((bytes_eq-Decides f.bytes f.bytes).1 refl)

-- A fragment with the parts of one that is there is there, too.
pub same_among : (fs : List Fragment) (g f : Fragment) → list_any (is_same g) fs ≡ true → g.offset ≡ f.offset → g.more ≡ f.more → g.bytes ≡ f.bytes → list_any (is_same f) fs ≡ true
same_among fs g f among offsets flags bytes = subst (λ (k : Fragment). list_any (is_same k) fs ≡ true) (same_parts g.offset f.offset g.more f.more g.bytes f.bytes offsets flags bytes) among

-- Offsets in a fragment lie between its offset and its end.
pub in_bounds : (f : Fragment) (i : ℕ) → is_in f i ≡ true → (f.offset ≤ i) × (i < end_of f)
in_bounds f i h =
    let both = and_parts _ _ h in
    (leb-true f.offset i both.0, ltb-true i (end_of f) both.1)

pub is_in_bounds : (f : Fragment) (i : ℕ) → f.offset ≤ i → i < end_of f → is_in f i ≡ true
is_in_bounds f i low high = and_from _ _ (le-leb f.offset i low) (lt-ltb i (end_of f) high)

pub out_of_bounds : (f : Fragment) (i : ℕ) → is_in f i ≡ false → (i < f.offset) ⊎ (end_of f ≤ i)
out_of_bounds f i h = elim (and_cases _ _ h) [ inl low ↦ inl (leb-false f.offset i low) | inr high ↦ inr (ltb-false i (end_of f) high) ]

-- Two fragments overlap exactly if some byte is in both.
pub overlaps_at : (f g : Fragment) (i : ℕ) → f.offset ≤ i → i < end_of f → g.offset ≤ i → i < end_of g → overlaps f g ≡ true
overlaps_at f g i a b c d = lt-ltb (max f.offset g.offset) (min (end_of f) (end_of g)) (omega (arith, a, b, c, d))

pub overlap_bounds : (f g : Fragment) → overlaps f g ≡ true → max f.offset g.offset < min (end_of f) (end_of g)
overlap_bounds f g h = ltb-true (max f.offset g.offset) (min (end_of f) (end_of g)) h

pub overlaps_sym : (f g : Fragment) → overlaps f g ≡ true → overlaps g f ≡ true
overlaps_sym f g h = lt-ltb (max g.offset f.offset) (min (end_of g) (end_of f)) (omega (arith, overlap_bounds f g h))

-- A fragment that isn't the last has whole units.
pub whole_units : (f : Fragment) → is_unaligned f ≡ false → f.more ≡ true → length f.bytes % 8 ≡ 0
whole_units f aligned more = elim (and_cases f.more ((length f.bytes == 0) || not (length f.bytes % 8 == 0)) aligned) [
  | inl last ↦ absurd (both_ways f.more last more)
  | inr units ↦ eqb-true (length f.bytes % 8) 0 (not-false (length f.bytes % 8 == 0) (or_parts (length f.bytes == 0) (not (length f.bytes % 8 == 0)) units).1)
]

pub some_bytes : (f : Fragment) → is_unaligned f ≡ false → f.more ≡ true → 0 < length f.bytes
some_bytes f aligned more = elim (and_cases f.more ((length f.bytes == 0) || not (length f.bytes % 8 == 0)) aligned) [
  | inl last ↦ absurd (both_ways f.more last more)
  | inr units ↦ let some : length f.bytes ≡ 0 → ⊥ = eqb-false (length f.bytes) 0 (or_parts (length f.bytes == 0) (not (length f.bytes % 8 == 0)) units).0 in omega (arith, some)
]
