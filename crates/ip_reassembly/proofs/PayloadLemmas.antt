-- What fragments say of a payload: its bytes, how many of them are there, and its end.
use Rattle.ip_reassembly.proofs.Common.{◌≡◌, ℕ, zero, suc, ◌+◌, ◌-◌, ◌≤◌, ◌<◌, max, min, true, false, not, List, [], ◌∷◌, ◌++◌, take, length, get_or, Option, Some, None, is_some, slice_get, ◌⊎◌, refl, sym, ap, ◌∙◌, subst, inl, inr, arith, cond-true, cond-false, cases_eq, cases_lt, cases_Bool, or_parts, or_cases, both_ways, not-true, not-false, list_any, Fragment, end_of, is_in, is_same, overlaps, byte_at, end_in, first_bytes, reach_of, is_ended, count_of, AreConsistent}
use Rattle.std.specs.Option.{option_map, option_and_then}
use Rattle.std.proofs.lemmas.Option.{slice_get-get_or, same_Some, none-some}
use Rattle.std.proofs.lemmas.List.{get_or_push, length_push, get_or_append_left}
use Rattle.std.proofs.Math.Seq.{take-suc}
use Rattle.ip_reassembly.specs.Payload.{payload_of}
use Rattle.ip_reassembly.proofs.FragmentLemmas.{same_is, in_bounds, out_of_bounds, overlaps_at}
use Rattle.ip_reassembly.proofs.MemberLemmas.{member_overlaps, ends_before, ends_within}

pub byte_at_in : (f : Fragment) (fs : List Fragment) (i : ℕ) → is_in f i ≡ true → byte_at (f ∷ fs) i ≡ slice_get f.bytes (i - f.offset)
byte_at_in f fs i h = cond-true (is_in f i) (slice_get f.bytes (i - f.offset)) (byte_at fs i) h

pub byte_at_out : (f : Fragment) (fs : List Fragment) (i : ℕ) → is_in f i ≡ false → byte_at (f ∷ fs) i ≡ byte_at fs i
byte_at_out f fs i h = cond-false (is_in f i) (slice_get f.bytes (i - f.offset)) (byte_at fs i) h

-- The byte at an offset of a fragment is the fragment's.
pub own_byte : (f : Fragment) (i : ℕ) → is_in f i ≡ true → slice_get f.bytes (i - f.offset) ≡ Some (get_or f.bytes (i - f.offset) 0)
own_byte f i h = let b = in_bounds f i h in slice_get-get_or f.bytes (i - f.offset) 0 (omega (arith, b.0, b.1))

pub member_byte : (limit : ℕ) (fs : List Fragment) (f : Fragment) (i : ℕ) → AreConsistent limit fs → list_any (is_same f) fs ≡ true → is_in f i ≡ true → byte_at fs i ≡ Some (get_or f.bytes (i - f.offset) 0)
member_byte limit [] f i c among inside = absurd (both_ways false refl among)
member_byte limit (g ∷ gs) f i c among inside = elim (or_cases (is_same f g) (list_any (is_same f) gs) among) [
  | inl same ↦ subst (λ (h : Fragment). byte_at (h ∷ gs) i ≡ Some (get_or f.bytes (i - f.offset) 0)) (same_is f g same) (byte_at_in f gs i inside ∙ own_byte f i inside)
  | inr rest ↦ elim (cases_Bool (is_in g i)) as (λ _. byte_at (g ∷ gs) i ≡ Some (get_or f.bytes (i - f.offset) 0)) [
    | inr outside ↦ byte_at_out g gs i outside ∙ member_byte limit gs f i c.3 rest inside
    | inl both ↦ absurd (both_ways (list_any (overlaps g) gs) c.1 (member_overlaps gs f g i rest (in_bounds f i inside) (in_bounds g i both)))
  ]
]

-- A byte of a fragment that overlaps no other is in no other.
pub byte_elsewhere : (fs : List Fragment) (f : Fragment) (i : ℕ) → list_any (overlaps f) fs ≡ false → is_in f i ≡ true → byte_at fs i ≡ None
byte_elsewhere [] f i n inside = refl
byte_elsewhere (g ∷ gs) f i n inside =
    let parts = or_parts (overlaps f g) (list_any (overlaps f) gs) n in
    let within = in_bounds f i inside in
    elim (cases_Bool (is_in g i)) as (λ _. byte_at (g ∷ gs) i ≡ None) [
      | inl both ↦ absurd (both_ways (overlaps f g) parts.0 (overlaps_at f g i within.0 within.1 (in_bounds g i both).0 (in_bounds g i both).1))
      | inr outside ↦ byte_at_out g gs i outside ∙ byte_elsewhere gs f i parts.1 inside
    ]

-- 1 if a byte is there
abbrev pub one_if_there : Option ℕ → ℕ
one_if_there None = 0
one_if_there (Some byte) = 1

one_there : (o : Option ℕ) → is_some o ≡ true → one_if_there o ≡ 1
one_there None h = absurd (both_ways false refl h)
one_there (Some byte) h = refl

none_there : (o : Option ℕ) → is_some o ≡ false → one_if_there o ≡ 0
none_there None h = refl
none_there (Some byte) h = absurd (both_ways true h refl)

-- how many of the first n bytes are there
abbrev pub present : List Fragment → ℕ → ℕ
present fs zero = 0
present fs (suc n) = present fs n + one_if_there (byte_at fs n)

-- A fragment that overlaps no other adds its bytes.
pub present_with : (f : Fragment) (fs : List Fragment) (n : ℕ) → list_any (overlaps f) fs ≡ false → present (f ∷ fs) n ≡ present fs n + (min n (end_of f) - f.offset)
present_with f fs zero none = omega arith
present_with f fs (suc n) none = elim (cases_Bool (is_in f n)) [
  | inl inside ↦
      let within = in_bounds f n inside in
      let here : is_some (byte_at (f ∷ fs) n) ≡ true = ap is_some (byte_at_in f fs n inside ∙ own_byte f n inside) in
      let elsewhere : is_some (byte_at fs n) ≡ false = ap is_some (byte_elsewhere fs f n none inside) in
      let one : one_if_there (byte_at (f ∷ fs) n) ≡ 1 = one_there (byte_at (f ∷ fs) n) here in
      let zero_more : one_if_there (byte_at fs n) ≡ 0 = none_there (byte_at fs n) elsewhere in
      omega (arith, present_with f fs n none, one, zero_more, within.0, within.1)
  | inr outside ↦
      let same : one_if_there (byte_at (f ∷ fs) n) ≡ one_if_there (byte_at fs n) = ap one_if_there (byte_at_out f fs n outside) in
      elim (out_of_bounds f n outside) [
        | inl low ↦ omega (arith, present_with f fs n none, same, low)
        | inr high ↦ omega (arith, present_with f fs n none, same, high)
      ]
]

-- All bytes of fragments that don't overlap are there before any offset that none passes.
pub present_all : (limit : ℕ) (fs : List Fragment) (n : ℕ) → AreConsistent limit fs → reach_of fs ≤ n → present fs n ≡ count_of fs
present_all limit [] n c within = none_present n where
  none_present : (n : ℕ) → present [] n ≡ 0
  none_present zero = refl
  none_present (suc n) = omega (arith, none_present n)
present_all limit (f ∷ fs) n c within =
    omega (arith, present_with f fs n c.1, present_all limit fs n c.3 (omega (arith, within)), within)

pub present_most : (fs : List Fragment) (n : ℕ) → present fs n ≤ n
present_most fs zero = omega arith
present_most fs (suc n) = elim (cases_Bool (is_some (byte_at fs n))) [
  | inl some ↦ let e : one_if_there (byte_at fs n) ≡ 1 = one_there (byte_at fs n) some in omega (arith, e, present_most fs n)
  | inr none ↦ let e : one_if_there (byte_at fs n) ≡ 0 = none_there (byte_at fs n) none in omega (arith, e, present_most fs n)
]

-- The first n bytes are there exactly if n of them are.
pub first_bytes_there : (fs : List Fragment) (n : ℕ) → present fs n ≡ n → is_some (first_bytes fs n) ≡ true
first_bytes_there fs zero all = refl
first_bytes_there fs (suc n) all = elim (cases_Bool (is_some (byte_at fs n))) [
  | inr none ↦ absurd (let e : one_if_there (byte_at fs n) ≡ 0 = none_there (byte_at fs n) none in let h : ⊥ = omega (arith, e, all, present_most fs n) in h)
  | inl some ↦
      let e : one_if_there (byte_at fs n) ≡ 1 = one_there (byte_at fs n) some in
      joined (first_bytes fs n) (byte_at fs n) (first_bytes_there fs n (omega (arith, e, all))) some
] where
  joined : (bytes : Option (List ℕ)) (byte : Option ℕ) → is_some bytes ≡ true → is_some byte ≡ true → is_some (option_and_then (λ s. option_map (λ b. s ++ b ∷ []) byte) bytes) ≡ true
  joined None byte p q = absurd (both_ways false refl p)
  joined (Some s) None p q = absurd (both_ways false refl q)
  joined (Some s) (Some b) p q = refl

pub first_bytes_missing : (fs : List Fragment) (n : ℕ) → present fs n < n → first_bytes fs n ≡ None
first_bytes_missing fs zero less = absurd (let h : ⊥ = omega (arith, less) in h)
first_bytes_missing fs (suc n) less = elim (cases_lt (present fs n) n) [
  | inl before ↦ ap (option_and_then (λ s. option_map (λ b. s ++ b ∷ []) (byte_at fs n))) (first_bytes_missing fs n before)
  | inr here ↦ without (first_bytes fs n) (byte_at fs n) (elim (cases_Bool (is_some (byte_at fs n))) as (λ _. is_some (byte_at fs n) ≡ false) [
    | inr none ↦ none
    | inl some ↦ absurd (let e : one_if_there (byte_at fs n) ≡ 1 = one_there (byte_at fs n) some in let h : ⊥ = omega (arith, e, less, here) in h)
  ])
] where
  without : (bytes : Option (List ℕ)) (byte : Option ℕ) → is_some byte ≡ false → option_and_then (λ s. option_map (λ b. s ++ b ∷ []) byte) bytes ≡ None
  without None byte q = refl
  without (Some s) None q = refl
  without (Some s) (Some b) q = absurd (both_ways true q refl)

-- s is n bytes, each the one at its offset.
abbrev pub AreBytesAt : List Fragment → ℕ → List ℕ → Type 0
AreBytesAt fs n s = (length s ≡ n) × ((i : ℕ) → i < n → byte_at fs i ≡ Some (get_or s i 0))

-- One byte more.
bytes_at_more : (fs : List Fragment) (n : ℕ) (s : List ℕ) (bytes : Option (List ℕ)) (byte : Option ℕ) → ((t : List ℕ) → bytes ≡ Some t → AreBytesAt fs n t) → byte_at fs n ≡ byte → option_and_then (λ t. option_map (λ b. t ++ b ∷ []) byte) bytes ≡ Some s → AreBytesAt fs (suc n) s
bytes_at_more fs n s None byte p q e = absurd (none-some s e)
bytes_at_more fs n s (Some t) None p q e = absurd (none-some s e)
bytes_at_more fs n s (Some t) (Some b) p q e =
    let rest = p t refl in
    let is : t ++ b ∷ [] ≡ s = same_Some (t ++ b ∷ []) s e in (
      sym (ap length is) ∙ (length_push t b ∙ omega (arith, rest.0)),
      λ i less. elim (cases_eq i n) [
        | inl last ↦ subst (λ (k : ℕ). byte_at fs k ≡ Some (get_or s k 0)) (sym last) (q ∙ ap Some (sym (get_or_push t b 0 n rest.0) ∙ ap (λ (u : List ℕ). get_or u n 0) is))
        | inr earlier ↦ rest.1 i (omega (arith, less, earlier)) ∙ ap Some (sym (get_or_append_left t (b ∷ []) 0 i (omega (arith, less, earlier, rest.0))) ∙ ap (λ (u : List ℕ). get_or u i 0) is)
      ],
    )

-- The first n bytes are those at their offsets.
pub first_bytes_each : (fs : List Fragment) (n : ℕ) (s : List ℕ) → first_bytes fs n ≡ Some s → AreBytesAt fs n s
first_bytes_each fs zero s h = let e : [] ≡ s = same_Some [] s h in (sym (ap length e), λ i less. absurd (let h : ⊥ = omega (arith, less) in h))
first_bytes_each fs (suc n) s h = bytes_at_more fs n s (first_bytes fs n) (byte_at fs n) (λ t e. first_bytes_each fs n t e) refl h

-- If each of the first n bytes is that of s, they are s.
pub first_bytes_are : (fs : List Fragment) (s : List ℕ) (n : ℕ) → n ≤ length s → ((i : ℕ) → i < n → byte_at fs i ≡ Some (get_or s i 0)) → first_bytes fs n ≡ Some (take n s)
first_bytes_are fs s zero l each = refl
first_bytes_are fs s (suc n) l each =
    ap (option_and_then (λ t. option_map (λ b. t ++ b ∷ []) (byte_at fs n))) (first_bytes_are fs s n (omega (arith, l)) (λ i less. each i (omega (arith, less))))
    ∙ (ap (option_map (λ b. take n s ++ b ∷ [])) (each n (omega arith))
    ∙ ap Some (sym (take-suc s n 0 (omega (arith, l)))))

-- The end in the fragments is the largest end, if a last fragment is there.
pub end_in_is : (limit : ℕ) (fs : List Fragment) → AreConsistent limit fs → is_ended fs ≡ true → end_in fs ≡ Some (reach_of fs)
end_in_is limit [] c ended = absurd (both_ways false refl ended)
end_in_is limit (f ∷ fs) c ended = elim (cases_Bool f.more) as (λ _. end_in (f ∷ fs) ≡ Some (max (end_of f) (reach_of fs))) [
  | inr last ↦ cond-false f.more (end_in fs) (Some (end_of f)) last
      ∙ ap Some (let e : end_of f ≡ max (end_of f) (reach_of fs) = omega (arith, ends_before fs f c.2 last) in e)
  | inl more ↦ cond-true f.more (end_in fs) (Some (end_of f)) more
      ∙ (end_in_is limit fs c.3 (rest_ended more (or_cases (not f.more) (is_ended fs) ended))
      ∙ ap Some (let e : reach_of fs ≡ max (end_of f) (reach_of fs) = omega (arith, ends_within fs f c.2 (rest_ended more (or_cases (not f.more) (is_ended fs) ended))) in e))
] where
  rest_ended : f.more ≡ true → (not f.more ≡ true) ⊎ (is_ended fs ≡ true) → is_ended fs ≡ true
  rest_ended more cases = elim cases [ inl last ↦ absurd (both_ways f.more (not-true f.more last) more) | inr rest ↦ rest ]

pub no_end_in : (fs : List Fragment) → is_ended fs ≡ false → end_in fs ≡ None
no_end_in [] none = refl
no_end_in (f ∷ fs) none =
    let parts = or_parts (not f.more) (is_ended fs) none in
    cond-true f.more (end_in fs) (Some (end_of f)) (not-false f.more parts.0) ∙ no_end_in fs parts.1

-- The payload is whole exactly if a last fragment is there, and as many bytes as its end says.
pub payload_is : (limit : ℕ) (fs : List Fragment) → AreConsistent limit fs → is_ended fs ≡ true → payload_of fs ≡ first_bytes fs (reach_of fs)
unfolding payload_of
payload_is limit fs c ended = ap (option_and_then (first_bytes fs)) (end_in_is limit fs c ended)

pub whole_payload : (limit : ℕ) (fs : List Fragment) → AreConsistent limit fs → is_ended fs ≡ true → count_of fs ≡ reach_of fs → is_some (payload_of fs) ≡ true
whole_payload limit fs c ended all =
    ap is_some (payload_is limit fs c ended) ∙ first_bytes_there fs (reach_of fs) (present_all limit fs (reach_of fs) c (omega arith) ∙ all)

pub payload_without_end : (fs : List Fragment) → is_ended fs ≡ false → payload_of fs ≡ None
unfolding payload_of
payload_without_end fs none = ap (option_and_then (first_bytes fs)) (no_end_in fs none)

pub payload_with_hole : (limit : ℕ) (fs : List Fragment) → AreConsistent limit fs → is_ended fs ≡ true → (count_of fs ≡ reach_of fs → ⊥) → payload_of fs ≡ None
payload_with_hole limit fs c ended some =
    payload_is limit fs c ended ∙ first_bytes_missing fs (reach_of fs) (omega (arith, present_all limit fs (reach_of fs) c (omega arith), present_most fs (reach_of fs), some))

-- The number of bytes is at most the largest end.
pub count_most : (limit : ℕ) (fs : List Fragment) → AreConsistent limit fs → count_of fs ≤ reach_of fs
count_most limit fs c = omega (arith, present_all limit fs (reach_of fs) c (omega arith), present_most fs (reach_of fs))

pub reach_most : (limit : ℕ) (fs : List Fragment) → AreConsistent limit fs → reach_of fs ≤ limit
reach_most limit [] c = omega arith
reach_most limit (f ∷ fs) c = omega (arith, c.0.within, reach_most limit fs c.3)
