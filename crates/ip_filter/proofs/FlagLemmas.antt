-- The flags of a packet.
use Rattle.std.proofs.Common.{zero, suc, bit_or, true≢false}
use mir.Val.{bool_byte}
use Rattle.ip_spec.proofs.Common.{◌≡◌, ℕ, ◌+◌, ◌<◌, ◌≤◌, ◌*◌, ◌%◌, ◌^◌, inl, inr, refl, sym, ap, ◌∙◌, arith, common_steps, eqb_tells, cases_eq, cases_lt, cases_Bool, bit_and, Bool, true, false, not, ◌==◌, ◌&&◌, ◌||◌, nat_eq, None, option_map_or, Option, ◌⊎◌, or-false, Some, List, [], ◌∷◌, ◌++◌, ExtHeader}
use Rattle.std.specs.Int.{bit_at}
use Rattle.std.proofs.lemmas.Bool.{or_parts}
use Rattle.std.proofs.lemmas.Nat.{and_le_l}
use Rattle.std.proofs.lemmas.Nat.Bits.{bit_at_and, bit_at_or, bit_at-zero, bit_at-lt, same_from_bits_below}
use Rattle.ip_dissect.specs.Dissection.{DissectedParts}
use Rattle.ip_dissect.specs.End.{has_error}
use Rattle.ip_dissect.specs.declared.end.End.{End}
use Rattle.ip_dissect.specs.declared.end.End.TheVariants as end
use Rattle.ip_filter.specs.Truth.{is_version, is_first_kind, is_later_kind, says_fragment, is_truncated, fault_in, kind_index}
use Rattle.ip_filter.specs.Flags.{known_flag, header_flag, flag_says, any_flag}
use Rattle.ip_filter.specs.declared.term.FaultKind.{FaultKind}
use Rattle.ip_filter.specs.declared.term.FaultKind.TheVariants as kind
use Rattle.ip_filter.proofs.FactsLemmas.{one_bit, bit_same, bit_other, any_more}

-- one more flag
pub flag_set : (m k n b : ℕ) (s : Bool) → k < 64 → b ≡ bool_byte s → (bit_at (bit_or m (b * 2 ^ k % 2 ^ 64)) n == 1) ≡ ((bit_at m n == 1) || ((n == k) && s))
flag_set m k n b true small is = rw (is, one_bit k 64 small) (elim (cases_eq n k) [
  | inl same ↦ rw same (bit_same m k ∙ grind (arith, common_steps))
  | inr other ↦ bit_other m k n other ∙ grind (arith, common_steps)
])
flag_set m k n b false small is =
    let none : 0 * 2 ^ k ≡ 0 = omega arith in
    let nothing : b * 2 ^ k % 2 ^ 64 ≡ 0 = ap (λ x. x * 2 ^ k % 2 ^ 64) is ∙ ap (λ x. x % 2 ^ 64) none in
    rw nothing (rw (bit_at_or m 0 n, bit_at-zero n) (grind (arith, common_steps, bit_at-lt m n)))

-- one more header
pub one_more_flag : (n : ℕ) (c : List ExtHeader) (h : ExtHeader) → (((header_flag n c || ((n == h.number) && true)) || ((n == 8) && says_fragment (λ x. is_first_kind x.kind) h)) || ((n == 9) && says_fragment (λ x. is_later_kind x.kind) h)) ≡ header_flag n (c ++ h ∷ [])
one_more_flag n c h =
    let turned : (h.number == n) ≡ (n == h.number) = grind (arith, common_steps, eqb_tells) in
    rw (any_more (λ g. g.number == n) c h, any_more (says_fragment (λ x. is_first_kind x.kind)) c h, any_more (says_fragment (λ x. is_later_kind x.kind)) c h, turned) (grind (arith, common_steps))

-- the flags of headers before those of the versions
versions_first : (a p q v w : Bool) → ((((a || p) || q) || v) || w) ≡ ((((a || v) || w) || p) || q)
versions_first a p q v w = grind (arith, common_steps)

kinds_joined : (a p q r s : Bool) → ((((a || p) || q) || r) || s) ≡ ((a || (p || r)) || (q || s))
kinds_joined a p q r s = grind (arith, common_steps)

distributed : (x f g : Bool) → (x && (f || g)) ≡ ((x && f) || (x && g))
distributed x f g = grind (arith, common_steps)

pub flags_joined : (a v w x y f l g m : Bool) → ((((((a || (x && f)) || (y && l)) || v) || w) || (x && g)) || (y && m)) ≡ ((((a || v) || w) || (x && (f || g))) || (y && (l || m)))
flags_joined a v w x y f l g m =
    ap (λ b. (b || (x && g)) || (y && m)) (versions_first a (x && f) (y && l) v w)
    ∙ kinds_joined ((a || v) || w) (x && f) (y && l) (x && g) (y && m)
    ∙ sym (rw (distributed x f g, distributed y l m) refl)

-- The bits w are the flags of a packet with the parts p that the mask m selects.
module _ (p : DissectedParts) (w m : ℕ) (are : (n : ℕ) → n < 64 → bit_at m n ≡ 1 → (bit_at w n == 1) ≡ flag_says n p) where
  both_bits : (n : ℕ) → n < 64 → ((bit_at m n == 1) && flag_says n p) ≡ (bit_at (bit_and w m) n == 1)
  both_bits n less = rw (bit_at_and w m n) (elim (cases_eq (bit_at m n) 1) [
    | inl selected ↦ rw (sym (are n less selected), selected) (grind (arith, common_steps, bit_at-lt w n))
    | inr other ↦ grind (arith, common_steps, other, bit_at-lt w n, bit_at-lt m n)
  ])

  no_bit : (k n : ℕ) → k ≤ 64 → any_flag k m p ≡ false → n < k → bit_at (bit_and w m) n ≡ 0
  unfolding any_flag
  no_bit zero n most none less = absurd (omega (arith, less))
  no_bit (suc k) n most none less =
      let parts = or_parts (any_flag k m p) ((bit_at m k == 1) && flag_says k p) none in
      elim (cases_eq n k) [
        | inl same ↦ rw same (grind (arith, common_steps, both_bits k (omega (arith, most)), bit_at-lt (bit_and w m) k, parts.1))
        | inr other ↦ no_bit k n (omega (arith, most)) parts.0 (omega (arith, less, other))
      ]

  some_bit : (k : ℕ) → k ≤ 64 → any_flag k m p ≡ true → bit_and w m ≡ 0 → true ≡ false
  unfolding any_flag
  some_bit zero most some none = sym some
  some_bit (suc k) most some none = elim (cases_Bool (any_flag k m p)) [
    | inl here ↦ some_bit k (omega (arith, most)) here none
    | inr not_here ↦
        let bit : (bit_at (bit_and w m) k == 1) ≡ true = sym (both_bits k (omega (arith, most))) ∙ sym (ap (λ x. x || ((bit_at m k == 1) && flag_says k p)) not_here) ∙ some in
        sym bit ∙ ap (λ x. bit_at x k == 1) none ∙ ap (λ x. x == 1) (bit_at-zero k)
  ]

  pub some_flag : w < 2 ^ 64 → not (nat_eq (bit_and w m) 0) ≡ any_flag 64 m p
  some_flag fits = elim (cases_Bool (any_flag 64 m p)) [
    | inl some ↦ rw some (grind (arith, common_steps, some_bit 64 (omega arith) some))
    | inr none ↦
        let zero_bits : bit_and w m ≡ 0 = same_from_bits_below 64 (bit_and w m) 0 (omega (arith, fits, and_le_l w m)) (omega arith) (λ i less. no_bit 64 i (omega arith) none less ∙ sym (bit_at-zero i)) in
        rw (none, zero_bits) refl
  ]

-- without an error
not_truncated : (e : End) → has_error e ≡ false → is_truncated e ≡ false
not_truncated end.Payload none = refl
not_truncated end.LaterFragment none = refl
not_truncated (end.Truncated e h) none = none
not_truncated (end.Fault e h) none = refl

no_fault : (e : End) → has_error e ≡ false → fault_in e ≡ None
no_fault end.Payload none = refl
no_fault end.LaterFragment none = refl
no_fault (end.Truncated e h) none = refl
no_fault (end.Fault e h) none = absurd (true≢false none)

-- the flag of a fault is one of 12 to 16
pub other_fault : (n : ℕ) (o : Option FaultKind) → (n < 12) ⊎ (16 < n) → option_map_or (λ k. n == 12 + kind_index k) o false ≡ false
other_fault n None out = refl
other_fault n (Some kind.TooShort) out = grind (arith, common_steps, eqb_tells, out)
other_fault n (Some kind.HopByHopNotAtStart) out = grind (arith, common_steps, eqb_tells, out)
other_fault n (Some kind.ZeroPayloadLen) out = grind (arith, common_steps, eqb_tells, out)
other_fault n (Some kind.UnsupportedIpVersion) out = grind (arith, common_steps, eqb_tells, out)
other_fault n (Some kind.Ipv4HeaderLength) out = grind (arith, common_steps, eqb_tells, out)

-- the flags of errors are those of the mask 129024
error_place : (n : ℕ) → 11 ≤ n → n ≤ 16 → bit_at 129024 n ≡ 0 → ⊥
error_place n least most off = elim (cases_eq n 11) [
  | inl e ↦ omega (arith, sym (ap (bit_at 129024) e) ∙ off)
  | inr a ↦ elim (cases_eq n 12) [
    | inl e ↦ omega (arith, sym (ap (bit_at 129024) e) ∙ off)
    | inr b ↦ elim (cases_eq n 13) [
      | inl e ↦ omega (arith, sym (ap (bit_at 129024) e) ∙ off)
      | inr c ↦ elim (cases_eq n 14) [
        | inl e ↦ omega (arith, sym (ap (bit_at 129024) e) ∙ off)
        | inr d ↦ elim (cases_eq n 15) [
          | inl e ↦ omega (arith, sym (ap (bit_at 129024) e) ∙ off)
          | inr f ↦ let e : n ≡ 16 = omega (arith, least, most, a, b, c, d, f) in omega (arith, sym (ap (bit_at 129024) e) ∙ off)
        ]
      ]
    ]
  ]
]

error_places : (n : ℕ) → bit_at 129024 n ≡ 0 → (n < 11) ⊎ (16 < n)
error_places n off = elim (cases_lt n 11) [
  | inl less ↦ inl less
  | inr least ↦ elim (cases_lt 16 n) [
    | inl more ↦ inr more
    | inr most ↦ absurd (error_place n least most off)
  ]
]

or_twelve : (n : ℕ) → (n < 11) ⊎ (16 < n) → (n < 12) ⊎ (16 < n)
or_twelve n (inl less) = inl (omega (arith, less))
or_twelve n (inr more) = inr more

module _ (p : DissectedParts) (w m : ℕ) (known : (n : ℕ) → n < 64 → (bit_at w n == 1) ≡ known_flag n p) where
  -- without an error all flags are known
  pub without_error : has_error p.end ≡ false → (n : ℕ) → n < 64 → bit_at m n ≡ 1 → (bit_at w n == 1) ≡ flag_says n p
  without_error none n less selected = rw (not_truncated p.end none, no_fault p.end none, known n less) (grind (arith, common_steps))

  no_error_bit : bit_and m 129024 ≡ 0 → (n : ℕ) → bit_at m n ≡ 1 → bit_at 129024 n ≡ 0
  no_error_bit none n selected = grind (arith, common_steps, bit_at_and m 129024 n, bit_at-zero n, none, selected, bit_at-lt 129024 n)

  -- so are all but those of errors
  pub none_of_errors : bit_and m 129024 ≡ 0 → (n : ℕ) → n < 64 → bit_at m n ≡ 1 → (bit_at w n == 1) ≡ flag_says n p
  none_of_errors none n less selected =
      let out : (n < 11) ⊎ (16 < n) = error_places n (no_error_bit none n selected) in
      let not_truncation : (n == 11) ≡ false = grind (arith, common_steps, eqb_tells, out) in
      known n less ∙ sym (rw (not_truncation, other_fault n (fault_in p.end) (or_twelve n out)) (simp or-false))

-- a version that is not 0
pub of_version : (v k : ℕ) (p : DissectedParts) → v ≡ p.version → 0 < k → (v == k) ≡ is_version k p
of_version v k p same some = rw same (grind (arith, common_steps, eqb_tells, some))
