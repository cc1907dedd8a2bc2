-- Clearing leaves headers as they are exactly if none of their reserved bits is 1.
use Rattle.ip_spec.proofs.Common.{◌≡◌, ◌↔◌, ℕ, List, [], ◌∷◌, length, inl, inr, refl, sym, ◌∙◌, ap, arith, Bool, true, false, cases_Bool, cases_lt, eqb-true, eq-eqb, ◌==◌, not, list_any, slice_set, slice_index, length-set, get_or-set_other, get_or-set_same, get_or_past, cleared_header, cleared_chain, unreserved_bits, ExtHeader}
use Rattle.std.proofs.lemmas.Bool.{or_from, or_parts}
use Rattle.std.proofs.lemmas.List.{set-get_or}
use Rattle.ip_rewrite.specs.Clearing.{has_reserved}

pub not_false : (b : Bool) → not b ≡ false → b ≡ true
not_false true e = refl
not_false false e = cc

-- a number that doesn't differ from another one
same : (x y : ℕ) → not (x == y) ≡ false → x ≡ y
same x y e = eqb-true x y (not_false (x == y) e)

no_other : (x y : ℕ) → x ≡ y → not (x == y) ≡ false
no_other x y e = ap not (eq-eqb x y e)

-- a byte that is set to zero is zero, also if there is none at the offset
zeroed : (b : List ℕ) (i : ℕ) → slice_index (slice_set b i 0) i ≡ 0
zeroed b i = elim (cases_lt i (length b)) [
  | inl within ↦ get_or-set_same b i 0 0 within
  | inr after ↦ get_or_past (slice_set b i 0) i 0 (omega (arith, after, length-set b i 0))
]

zero_stays : (b : List ℕ) (i : ℕ) → slice_index b i ≡ 0 → slice_set b i 0 ≡ b
zero_stays b i e = ap (slice_set b i) (sym e) ∙ set-get_or b i 0

-- so are the reserved bits of the byte with a fragment's flags
flags_cleared : (b d : List ℕ) → length d ≡ length b → slice_set d 3 (unreserved_bits (slice_index b 3)) ≡ b → unreserved_bits (slice_index b 3) ≡ slice_index b 3
flags_cleared b d size e = elim (cases_lt 3 (length b)) [
  | inl within ↦ sym (get_or-set_same d 3 (unreserved_bits (slice_index b 3)) 0 (omega (arith, within, size))) ∙ ap (λ x. slice_index x 3) e
  | inr after ↦ ap unreserved_bits (get_or_past b 3 0 after) ∙ sym (get_or_past b 3 0 after)
]

stays : (n : ℕ) (b : List ℕ) → has_reserved (record { number = n; bytes = b }) ≡ false → cleared_header n b ≡ b
stays n b e = elim (cases_Bool (n == 44)) [
  | inl s ↦ rw s (
      let parts = or_parts (not (slice_index b 1 == 0)) (not (unreserved_bits (slice_index b 3) == slice_index b 3)) (rw s at e) in
      ap (λ x. slice_set x 3 (unreserved_bits (slice_index b 3))) (zero_stays b 1 (same (slice_index b 1) 0 parts.0))
      ∙ (ap (slice_set b 3) (same (unreserved_bits (slice_index b 3)) (slice_index b 3) parts.1) ∙ set-get_or b 3 0))
  | inr s ↦ elim (cases_Bool (n == 51)) [
    | inl t ↦ rw (s, t) (
        let parts = or_parts (not (slice_index b 2 == 0)) (not (slice_index b 3 == 0)) (rw (s, t) at e) in
        ap (λ x. slice_set x 3 0) (zero_stays b 2 (same (slice_index b 2) 0 parts.0)) ∙ zero_stays b 3 (same (slice_index b 3) 0 parts.1))
    | inr t ↦ rw (s, t) refl
  ]
]

none_set : (n : ℕ) (b : List ℕ) → cleared_header n b ≡ b → has_reserved (record { number = n; bytes = b }) ≡ false
none_set n b e = elim (cases_Bool (n == 44)) [
  | inl s ↦ rw s (
      let d : List ℕ = slice_set b 1 0 in
      let flags : ℕ = unreserved_bits (slice_index b 3) in
      let is : slice_set d 3 flags ≡ b = rw s at e in
      let first : slice_index b 1 ≡ 0 = ap (λ x. slice_index x 1) (sym is) ∙ (get_or-set_other d 3 1 flags 0 (λ x. cc) ∙ zeroed b 1) in
      or_from (not (slice_index b 1 == 0)) (not (flags == slice_index b 3)) (no_other (slice_index b 1) 0 first)
      (no_other flags (slice_index b 3) (flags_cleared b d (length-set b 1 0) is)))
  | inr s ↦ elim (cases_Bool (n == 51)) [
    | inl t ↦ rw (s, t) (
        let d : List ℕ = slice_set b 2 0 in
        let is : slice_set d 3 0 ≡ b = rw (s, t) at e in
        let first : slice_index b 2 ≡ 0 = ap (λ x. slice_index x 2) (sym is) ∙ (get_or-set_other d 3 2 0 0 (λ x. cc) ∙ zeroed b 2) in
        or_from (not (slice_index b 2 == 0)) (not (slice_index b 3 == 0)) (no_other (slice_index b 2) 0 first)
        (no_other (slice_index b 3) 0 (ap (λ x. slice_index x 3) (sym is) ∙ zeroed d 3)))
    | inr t ↦ rw (s, t) refl
  ]
]

cleared_same : (c : List ExtHeader) → list_any has_reserved c ≡ false → cleared_chain c ≡ c
cleared_same [] e = refl
cleared_same (h ∷ c) e =
    let parts = or_parts (has_reserved h) (list_any has_reserved c) e in
    ap (λ (b : List ℕ). let g : ExtHeader = record { number = h.number; bytes = b } in g ∷ cleared_chain c) (stays h.number h.bytes parts.0)
    ∙ ap (λ d. h ∷ d) (cleared_same c parts.1)

none_reserved : (c : List ExtHeader) → cleared_chain c ≡ c → list_any has_reserved c ≡ false
none_reserved [] e = refl
none_reserved (h ∷ c) e =
    let first : record { number = h.number; bytes = cleared_header h.number h.bytes } ≡ h = cc in
    let others : cleared_chain c ≡ c = cc in
    or_from (has_reserved h) (list_any has_reserved c) (none_set h.number h.bytes (ap (λ (x : ExtHeader). x.bytes) first)) (none_reserved c others)

pub unchanged : (r : Bool) (c : List ExtHeader) → r ≡ list_any has_reserved c → r ≡ false ↔ (cleared_chain c ≡ c)
unchanged r c is = (λ e. cleared_same c (sym is ∙ e), λ e. is ∙ none_reserved c e)
