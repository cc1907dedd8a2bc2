-- A packet that is read as a fragment has all bytes that it states.
use Rattle.ip_spec.proofs.Common.{◌≡◌, ℕ, ◌+◌, ◌/◌, ◌≤◌, List, Bool, true, false, length, length-take, take, refl, sym, ap, ◌∙◌, arith, inl, inr, Option, Some, None, is_some, Result, Ok, Err, option_map_or, cases_Bool, cond, cond-false, eqb-true, false≢true, get_or-take, ◌==◌}
use Rattle.std.specs.Prelude.{not}
use Rattle.std.proofs.lemmas.Bool.{not-false}
use Rattle.std.proofs.lemmas.Option.{none-some}
use Rattle.ip_base.specs.Ipv4Header.{ipv4_header_len, total_len, version}
use Rattle.ip_base.specs.Ipv6Header.{payload_length}
use Rattle.ip_dissect.specs.Dissection.{DissectedParts, dissected}
use Rattle.ip_dissect.specs.End.{has_error}
use Rattle.ip_dissect.specs.Extent.{missing_of}
use Rattle.ip_dissect.proofs.DissectedLemmas.{begin_ipv4, begin_ipv6}
use Rattle.ip_defragmenter.specs.FragmentOf.{FragmentParts, fragment_by, fragmented, ipv4_fragment_parts, ipv6_fragment_parts, packet_fragment, unusable}
use Rattle.ip_defragmenter.specs.declared.err.FragmentError.{FragmentError}
use Rattle.ip_defragmenter.specs.declared.err.FragmentError.TheVariants.{Headers, NoLength, Missing}
use Rattle.ip_defragmenter_laws.proofs.ReadKeyLemmas.{read_parts, word_is}

-- It can be used.
usable_by : (e : Option FragmentError) (g f : FragmentParts) → option_map_or Err e (let r : Result (Option FragmentParts) FragmentError = Ok (Some g) in r) ≡ Ok (Some f) → e ≡ None
usable_by None g f is = refl
usable_by (Some e) g f is = absurd (cc)

usable_of : (p : DissectedParts) (o : Option FragmentParts) (f : FragmentParts) → option_map_or (fragment_by p) o (Ok None) ≡ Ok (Some f) → unusable p ≡ None
usable_of p None f is = absurd (cc)
usable_of p (Some g) f is = usable_by (unusable p) g f is

usable : (p : DissectedParts) (f : FragmentParts) → packet_fragment p ≡ Ok (Some f) → unusable p ≡ None
unfolding packet_fragment
usable p f is = usable_of p (fragmented p) f is

tests : (a b c : Bool) → cond a (Some Headers) (cond b (Some NoLength) (cond c (Some Missing) None)) ≡ None → (b ≡ false) × (c ≡ false)
tests true b c is = absurd (none-some _ (sym is))
tests false true c is = absurd (none-some _ (sym is))
tests false false true is = absurd (none-some _ (sym is))
tests false false false is = (refl, refl)

record IsComplete (p : DissectedParts) : Type 0 where
  stated : is_some p.stated ≡ true
  none : p.missing ≡ 0

complete : (p : DissectedParts) (f : FragmentParts) → packet_fragment p ≡ Ok (Some f) → IsComplete p
complete p f is =
    let both = tests (has_error p.end) (not (is_some p.stated)) (not (p.missing == 0)) (usable p f is) in
    record { stated = not-false (is_some p.stated) both.0; none = eqb-true p.missing 0 (not-false (p.missing == 0) both.1) }

within : (t n : ℕ) (b : Bool) → is_some (cond b None (Some t)) ≡ true → missing_of (cond b None (Some t)) n ≡ 0 → t ≤ n
within t n true stated none = absurd (false≢true stated)
within t n false stated none = omega (arith, none)

no_version : (s : List ℕ) (f : FragmentParts) → ((dissected s).version == 4) ≡ false → ((dissected s).version == 6) ≡ false → packet_fragment (dissected s) ≡ Ok (Some f) → ⊥
no_version s f four six read =
    none-some f (sym (cond-false ((dissected s).version == 4) (ipv4_fragment_parts (dissected s)) _ four ∙ cond-false ((dissected s).version == 6) (ipv6_fragment_parts (dissected s)) None six) ∙ read_parts (dissected s) f read)

version6 : (s : List ℕ) → (dissected s).version ≡ 6 → version s ≡ 6
version6 s is = ap (λ (k : ℕ). k / 16) (sym (get_or-take 40 s 0 0 (omega arith))) ∙ (begin_ipv6 s is).header.version

version4 : (s : List ℕ) → (dissected s).version ≡ 4 → version s ≡ 4
version4 s is =
    let begin = begin_ipv4 s is in
    ap (λ (k : ℕ). k / 16) (sym (get_or-take (ipv4_header_len s) s 0 0 (omega (arith, begin.header.len, begin.header.least, length-take (ipv4_header_len s) s)))) ∙ begin.header.version

pub complete4 : (s : List ℕ) (f : FragmentParts) → version s ≡ 4 → packet_fragment (dissected s) ≡ Ok (Some f) → total_len s ≤ length s
complete4 s f is read = elim (cases_Bool ((dissected s).version == 4)) [
  | inl four ↦
      let begin = begin_ipv4 s (eqb-true (dissected s).version 4 four) in
      let n : ℕ = ipv4_header_len s in
      let b : List ℕ = take n s in
      let long : 20 ≤ n = omega (arith, begin.header.len, begin.header.least, length-take n s) in
      let all = complete (dissected s) f read in
      let fits : total_len b ≤ length s = within (total_len b) (length s) (total_len b == 0)
      (ap (λ (p : DissectedParts). is_some p.stated) (sym begin.is) ∙ all.stated) (ap (λ (p : DissectedParts). p.missing) (sym begin.is) ∙ all.none) in
      omega (arith, fits, word_is b 2, word_is s 2, get_or-take n s 2 0 (omega (arith, long)), get_or-take n s 3 0 (omega (arith, long)))
  | inr other ↦ elim (cases_Bool ((dissected s).version == 6)) [
    | inl six ↦ absurd (omega (arith, is, version6 s (eqb-true (dissected s).version 6 six)))
    | inr neither ↦ absurd (no_version s f other neither read)
  ]
]

pub complete6 : (s : List ℕ) (f : FragmentParts) → version s ≡ 6 → packet_fragment (dissected s) ≡ Ok (Some f) → 40 + payload_length s ≤ length s
complete6 s f is read = elim (cases_Bool ((dissected s).version == 6)) [
  | inl six ↦
      let begin = begin_ipv6 s (eqb-true (dissected s).version 6 six) in
      let b : List ℕ = take 40 s in
      let all = complete (dissected s) f read in
      let fits : 40 + payload_length b ≤ length s = within (40 + payload_length b) (length s) (payload_length b == 0)
      (ap (λ (p : DissectedParts). is_some p.stated) (sym begin.is) ∙ all.stated) (ap (λ (p : DissectedParts). p.missing) (sym begin.is) ∙ all.none) in
      omega (arith, fits, word_is b 4, word_is s 4, get_or-take 40 s 4 0 (omega arith), get_or-take 40 s 5 0 (omega arith))
  | inr other ↦ elim (cases_Bool ((dissected s).version == 4)) [
    | inl four ↦ absurd (omega (arith, is, version4 s (eqb-true (dissected s).version 4 four)))
    | inr neither ↦ absurd (no_version s f neither other read)
  ]
]
