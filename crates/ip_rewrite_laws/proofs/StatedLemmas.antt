-- A packet that states its length states it after a rewriting.
use Rattle.ip_spec.proofs.Common.{◌≡◌, ℕ, ◌+◌, ◌<◌, List, length, take, inl, inr, refl, sym, subst, ◌∙◌, ap, arith, Bool, false, false≢true, cases_Bool, eqb-true, eq-eqb, ne_eqb, if◌then◌else◌, ◌&&◌, ◌==◌, not, Option, None, Some, is_some, ExtHeader, bytes_of}
use Rattle.ip_base.specs.Ipv4Header.{version, ipv4_header_len, total_len}
use Rattle.ip_base.specs.Ipv6Header.{payload_length}
use Rattle.ip_dissect.specs.End.{base_end}
use Rattle.ip_dissect.specs.Dissection.{DissectedParts, ipv4_dissected, ipv6_dissected, dissected}
use Rattle.ip_dissect.specs.declared.end.End.{End}
use Rattle.ip_dissect.proofs.DissectedLemmas.{BeginIpv4, begin_ipv4, BeginIpv6, begin_ipv6, base_none, base6, picked4}
use Rattle.ip_rewrite.specs.Headers.{linked_headers}
use Rattle.ip_rewrite.specs.Jumbogram.{is_unstated}
use Rattle.ip_rewrite.specs.Rewritten.{base_for, joined_parts, rewritten_field, room_fault}
use Rattle.ip_rewrite.specs.Without.{packet_fault}
use Rattle.ip_rewrite.proofs.DissectLemmas.{field_fits, no_base}
use Rattle.ip_rewrite.proofs.FrontLemmas.{joined_len}
use Rattle.ip_rewrite.proofs.Ipv4Lemmas.{stated as stated4}
use Rattle.ip_rewrite.proofs.Ipv6Lemmas.{stated as stated6}

-- whether a length is stated, if the length field is f
field6 : (u : Bool) (f n k : ℕ) (o : Option ℕ) → u ≡ false → f ≡ (if u then 0 else n) → o ≡ (if f == 0 then None else Some (40 + f)) → k ≡ n → (not (is_some o) && not (k == 0)) ≡ false
field6 u f n k o states is stated same = elim (cases_Bool (n == 0)) [
  | inl s ↦ rw (stated, is, states, same, s) refl
  | inr s ↦ rw (stated, is, states, same, s) refl
]

field4 : (u : Bool) (f l k : ℕ) (o : Option ℕ) → u ≡ false → f ≡ (if u then 0 else l) → 0 < l → o ≡ (if f == 0 then None else Some f) → (not (is_some o) && not (k == 0)) ≡ false
field4 u f l k o states is more stated = rw (stated, is, states, ne_eqb l 0 (λ e. omega (arith, e, more))) refl

module _ (c : List ExtHeader) (m : ℕ) (q : List ℕ) (room : ℕ) where
  -- the packet with the headers c and the payload q states its length
  abbrev States : DissectedParts → Type 0
  States p = is_unstated p ≡ false → room_fault p c q room ≡ None → is_unstated (joined_parts p c m q) ≡ false

  states6 : (s b : List ℕ) → BeginIpv6 s b → States (ipv6_dissected b s)
  states6 s b v states fits =
      let p : DissectedParts = ipv6_dissected b s in
      let t : ℕ = rewritten_field p c q in
      let n : ℕ = length (bytes_of c) + length q in
      let stated : payload_length (base_for p c m q) ≡ t = stated6 b v.header c m t q (field_fits p c q room fits) in
      field6 (is_unstated p) t n (length (bytes_of (linked_headers m c)) + length q) (joined_parts p c m q).stated states refl
      (ap (λ (k : ℕ). let o : Option ℕ = if k == 0 then None else Some (40 + k) in o) stated) (omega (arith, joined_len c m))

  states4 : (s b : List ℕ) → BeginIpv4 s b → States (ipv4_dissected b s)
  states4 s b v states fits =
      let p : DissectedParts = ipv4_dissected b s in
      let t : ℕ = rewritten_field p c q in
      let stated : total_len (base_for p c m q) ≡ t = stated4 b v.header c m t q (field_fits p c q room fits) in
      field4 (is_unstated p) t (length b + (length (bytes_of c) + length q)) (length (bytes_of (linked_headers m c)) + length q) (joined_parts p c m q).stated states refl (omega (arith, v.header.least, v.header.len))
      (ap (λ (k : ℕ). let o : Option ℕ = if k == 0 then None else Some k in o) stated)

  version4 : (s : List ℕ) → base_end s ≡ None → version s ≡ 4 → (dissected s).version ≡ 4
  unfolding dissected
  version4 s none four = ap (λ (p : DissectedParts). p.version) (picked4 s (base_end s) (version s) _ _ none four)

  version6 : (s : List ℕ) → base_end s ≡ None → version s ≡ 6 → (dissected s).version ≡ 6
  unfolding dissected
  version6 s none six = rw (none, six) refl

  states_by : (s : List ℕ) (o : Option End) → base_end s ≡ o → packet_fault (dissected s) ≡ None → States (dissected s)
  states_by s (Some x) some whole = absurd (no_base s (base_none s (λ none. cc)) whole)
  states_by s None none whole = elim (cases_Bool (version s == 4)) [
    | inl four ↦
        let b : List ℕ = take (ipv4_header_len s) s in
        let v = begin_ipv4 s (version4 s none (eqb-true (version s) 4 four)) in
        subst States (sym v.is) (states4 s b v)
    | inr other ↦
        let b : List ℕ = take 40 s in
        let six : version s ≡ 6 = (base6 s none (λ four. false≢true (sym other ∙ eq-eqb (version s) 4 four))).0 in
        let v = begin_ipv6 s (version6 s none six) in
        subst States (sym v.is) (states6 s b v)
  ]

  pub still_states : (s : List ℕ) → packet_fault (dissected s) ≡ None → States (dissected s)
  still_states s whole = states_by s (base_end s) refl whole
