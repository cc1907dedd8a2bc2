-- The key of a fragment that was read from bytes.
use Rattle.ip_spec.proofs.Common.{◌≡◌, ℕ, ◌+◌, ◌*◌, ◌≤◌, ◌<◌, List, Bool, true, false, length, min, take, drop, sym, ap, ◌∙◌, subst, arith, inl, inr, Option, Some, None, Result, Ok, Err, ExtHeader, option_map, option_map_or, find, cases_Bool, cond, cond-true, cond-false, eqb-true, length-take, length-drop, get_or-take, ◌==◌}
use Rattle.std.specs.Prelude.{slice_index}
use Rattle.std.specs.Int.{from_be_bytes, w16}
use Rattle.std.proofs.lemmas.List.{get_or-drop}
use Rattle.ip_base.specs.Ipv4Header.{ipv4_header_len, is_ipv4_fragmenting, ipv4_source_octets, ipv4_destination_octets, protocol}
use Rattle.ip_base.specs.BaseHeaderFields.{ipv4_identification}
use Rattle.ip_spec.specs.Encoding.{AreBytes}
use Rattle.ip_dissect.specs.Fragment.{fragments}
use Rattle.ip_dissect.specs.Dissection.{DissectedParts, dissected}
use Rattle.ip_dissect.proofs.DissectedLemmas.{begin_ipv4, begin_ipv6}
use Rattle.ip_defragmenter.specs.FragmentOf.{FragmentParts, fragment_by, fragmented, ipv4_fragment_parts, ipv6_fragment_parts, ipv6_fragment_parts_by, packet_fragment, unusable}
use Rattle.ip_defragmenter.specs.Key.{IsKey}
use Rattle.ip_defragmenter.specs.declared.err.FragmentError.{FragmentError}
use Rattle.ip_defragmenter.specs.declared.key.FragmentKey.TheVariants as key

-- A packet of which a fragment was read has the fragment's parts.
usable : (e : Option FragmentError) (g f : FragmentParts) → option_map_or Err e (let r : Result (Option FragmentParts) FragmentError = Ok (Some g) in r) ≡ Ok (Some f) → Some g ≡ Some f
usable None g f is = cc
usable (Some e) g f is = absurd (cc)

read_by : (p : DissectedParts) (o : Option FragmentParts) (f : FragmentParts) → option_map_or (fragment_by p) o (Ok None) ≡ Ok (Some f) → o ≡ Some f
read_by p None f is = absurd (cc)
read_by p (Some g) f is = usable (unusable p) g f is

pub read_parts : (p : DissectedParts) (f : FragmentParts) → packet_fragment p ≡ Ok (Some f) → fragmented p ≡ Some f
unfolding packet_fragment
read_parts p f is = read_by p (fragmented p) f is

-- A word of 16 bits.
word_bytes : (b : List ℕ) (i j : ℕ) → j < 2 → slice_index (take 2 (drop i b)) j ≡ slice_index b (i + j)
word_bytes b i j less = get_or-take 2 (drop i b) j 0 less ∙ get_or-drop i b j 0

pub word_is : (b : List ℕ) (i : ℕ) → from_be_bytes w16 (take 2 (drop i b)) ≡ 256 * slice_index b i + slice_index b (i + 1)
word_is b i =
    let high : slice_index (take 2 (drop i b)) 0 ≡ slice_index b i = word_bytes b i 0 (omega arith) ∙ ap (slice_index b) (omega arith) in
    omega (arith, high, word_bytes b i 1 (omega arith))

pub long_range : (n i : ℕ) (b : List ℕ) → i + n ≤ length b → length (take n (drop i b)) ≡ n
long_range n i b within = omega (arith, length-take n (drop i b), length-drop i b, within)

-- The keys are those of packets.
pub ipv4_is_key : (b : List ℕ) → 20 ≤ length b → slice_index b 4 < 256 → slice_index b 5 < 256 → IsKey (key.Ipv4 (ipv4_source_octets b) (ipv4_destination_octets b) (record { 0 = protocol b }) (ipv4_identification b))
ipv4_is_key b long high low = (long_range 4 12 b (omega (arith, long)), long_range 4 16 b (omega (arith, long)), omega (arith, word_is b 4, high, low))

ipv4_key : (b : Bool) (r f : FragmentParts) → IsKey r.key → cond b (Some r) None ≡ Some f → IsKey f.key
ipv4_key true r f own is =
    let P : FragmentParts → Type 0 = λ g. IsKey g.key in
    let same : r ≡ f = cc in
    subst P same own
ipv4_key false r f own is = absurd (cc)

ipv6_key : (p : DissectedParts) (o : Option ExtHeader) (f : FragmentParts) → 40 ≤ length p.base → option_map (ipv6_fragment_parts_by p) o ≡ Some f → IsKey f.key
ipv6_key p None f long is = absurd (cc)
ipv6_key p (Some h) f long is =
    let P : FragmentParts → Type 0 = λ g. IsKey g.key in
    let same : ipv6_fragment_parts_by p h ≡ f = cc in
    subst P same
    (long_range 16 8 p.base (omega (arith, long)), long_range 16 24 p.base (omega (arith, long)))

pub read_key : (s : List ℕ) (f : FragmentParts) → AreBytes s → packet_fragment (dissected s) ≡ Ok (Some f) → IsKey f.key
read_key s f bytes read =
    let p = dissected s in
    let is = read_parts p f read in
    elim (cases_Bool (p.version == 4)) [
      | inl four ↦
          let begin = begin_ipv4 s (eqb-true p.version 4 four) in
          let b : List ℕ = take (ipv4_header_len s) s in
          let base : p.base ≡ b = ap (λ (q : DissectedParts). q.base) begin.is in
          let long : 20 ≤ length b = omega (arith, begin.header.len, begin.header.least) in
          let n : ℕ = ipv4_header_len s in
          let size : length b ≡ min n (length s) = length-take n s in
          let high : slice_index b 4 < 256 = subst (λ (x : ℕ). x < 256) (sym (get_or-take n s 4 0 (omega (arith, size, long)))) (bytes 4 0 (omega (arith, size, long))) in
          let low : slice_index b 5 < 256 = subst (λ (x : ℕ). x < 256) (sym (get_or-take n s 5 0 (omega (arith, size, long)))) (bytes 5 0 (omega (arith, size, long))) in
          let own : IsKey (key.Ipv4 (ipv4_source_octets p.base) (ipv4_destination_octets p.base) (record { 0 = protocol p.base }) (ipv4_identification p.base)) =
          subst (λ (x : List ℕ). IsKey (key.Ipv4 (ipv4_source_octets x) (ipv4_destination_octets x) (record { 0 = protocol x }) (ipv4_identification x))) (sym base) (ipv4_is_key b long high low) in
          ipv4_key (is_ipv4_fragmenting p.base) _ f own (sym (cond-true (p.version == 4) (ipv4_fragment_parts p) _ four) ∙ is)
      | inr other ↦ elim (cases_Bool (p.version == 6)) [
        | inl six ↦
            let begin = begin_ipv6 s (eqb-true p.version 6 six) in
            let base : p.base ≡ take 40 s = ap (λ (q : DissectedParts). q.base) begin.is in
            ipv6_key p (find fragments p.headers) f (omega (arith, ap length base, begin.header.len))
            (sym (cond-false (p.version == 4) (ipv4_fragment_parts p) _ other ∙ cond-true (p.version == 6) (ipv6_fragment_parts p) None six) ∙ is)
        | inr neither ↦
            absurd (let e : (let n : Option FragmentParts = None in n) ≡ Some f = sym (cond-false (p.version == 4) (ipv4_fragment_parts p) _ other ∙ cond-false (p.version == 6) (ipv6_fragment_parts p) None neither) ∙ is in cc)
      ]
    ]
