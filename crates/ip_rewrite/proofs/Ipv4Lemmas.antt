-- How an IPv4 packet that was written dissects.
use Rattle.ip_spec.proofs.Common.{◌≡◌, ◌≢◌, ℕ, ◌+◌, ◌*◌, ◌/◌, ◌%◌, ◌≤◌, ◌<◌, ◌⊎◌, inl, inr, List, [], ◌∷◌, ◌++◌, length, take, drop, subst, refl, sym, ◌∙◌, ap, arith, common_steps, Bool, false, cases_Bool, cond-true, eqb-true, eq-eqb, if◌then◌else◌, Option, None, Some, option_map, option_map_or, ◌==◌, ◌&&◌, not, nat_lt, slice_set, slice_index, bit_and, length-append, length-set, get_or-set_other, get_or-set_same, take-append_seam, drop-append_seam, drop-length, append_assoc, AllByRecursion, IsPrefix, AtMostOneOf, IsLongestUnder, IsNext, ExtHeader, bytes_of, is_empty, leads_to, rest_after, fault_after}
use Rattle.ip_spec.proofs.StepLemmas.{all_next}
use Rattle.ip_spec.proofs.DemandKinds.{at_most_one_of}
use Rattle.ip_spec.proofs.ParsedLemmas.{has_parsed_before, parsed_longest_under}
use Rattle.ip_spec.proofs.UnderLemmas.{one_longest_under}
use Rattle.ip_base.specs.Fragment.{is_fragment}
use Rattle.ip_base.specs.Ipv4Header.{IsIpv4Header, total_len, protocol, ipv4_more_fragments, ipv4_fragment_offset}
use Rattle.ip_base.specs.BaseHeaderFields.{ipv4_identification}
use Rattle.ip_base.specs.LenError.{too_short}
use Rattle.ip_base.specs.declared.len_source.LenSource.TheVariants.{Slice, Ipv4HeaderTotalLen}
use Rattle.ip_base.specs.declared.err.layer.Layer.TheVariants.{Ipv4Packet}
use Rattle.ip_base.specs.declared.err.ip.slice_error.SliceError.TheVariants.{Len}
use Rattle.ip_ext_headers.specs.HeaderFault.{auth_in_packet}
use Rattle.ip_ext_slices.specs.Ipv4Fault.{ipv4_faults}
use Rattle.ip_ext_slices.specs.Ipv4Longest.{longest_ipv4_chain}
use Rattle.ip_ext_slices.proofs.Ipv4Lemmas.{ipv4_longest}
use Rattle.ip_base.specs.Checksum.{with_word, checksum_of}
use Rattle.ip_dissect.specs.Fragment.{ipv4_fragment, fragment_with}
use Rattle.ip_dissect.specs.declared.fragment.Fragment.{Fragment}
use Rattle.ip_dissect.specs.Extent.{packet_bytes, after_base, ipv4_stated, ipv4_chain}
use Rattle.ip_dissect.specs.End.{auth_end, ipv4_end, is_too_short}
use Rattle.ip_dissect.specs.Dissection.{ipv4_dissected, dissected}
use Rattle.ip_dissect.specs.declared.end.End.TheVariants.{Payload, LaterFragment, Fault}
use Rattle.ip_dissect.proofs.DissectedLemmas.{begun4}
use Rattle.ip_rewrite.specs.Headers.{number_of_first, linked_headers}
use Rattle.ip_rewrite.specs.Base.{base_stating, without_checksum}
use Rattle.ip_rewrite.proofs.FrontLemmas.{joined_len}
use Rattle.ip_rewrite.proofs.ChainLemmas.{AreHeaders, NoZero, joined_chain, joined_leads}
use Rattle.ip_base.proofs.ChecksumLemmas.{word_len, word_other}
use Rattle.ip_rewrite.proofs.FieldLemmas.{word_is, range_same}
use Rattle.ip_rewrite.proofs.Ipv6Lemmas.{same_parts, all_stated, none_missing}

-- a total length of 0, or of all bytes, isn't too short
not_short : (t k : ℕ) → (t ≡ 0) ⊎ (k ≤ t) → (not (t == 0) && nat_lt t k) ≡ false
not_short t k is = grind (arith, common_steps)

fragment_same : (a b : Bool) (i j k l : ℕ) → a ≡ b → i ≡ j → k ≡ l
    → (let o : Option Fragment = if is_fragment a k then Some (fragment_with i a k) else None in o) ≡ (if is_fragment b l then Some (fragment_with j b l) else None)
fragment_same a b i j k l p q r = rw (p, q, r) refl

-- at most one authentication header
joined_count : (m : ℕ) (c : List ExtHeader) → length (linked_headers m c) ≡ length c
joined_count m [] = refl
joined_count m (h ∷ c) = omega (arith, joined_count m c)

joined_numbers : (k m : ℕ) (c : List ExtHeader) → AllByRecursion (λ h. h.number ≡ k) c → AllByRecursion (λ h. h.number ≡ k) (linked_headers m c)
joined_numbers k m [] a = tt
joined_numbers k m (h ∷ c) a = (a.0, joined_numbers k m c a.1)

joined_one : (m : ℕ) (c : List ExtHeader) → AtMostOneOf 51 c → AtMostOneOf 51 (linked_headers m c)
joined_one m c o = record { one = omega (arith, o.one, joined_count m c); number = joined_numbers 51 m c o.number }

one_no_zero : (c : List ExtHeader) → length c ≤ 1 → NoZero (drop 1 c)
one_no_zero [] one = tt
one_no_zero (h ∷ []) one = tt
one_no_zero (h ∷ g ∷ c) one = absurd (omega (arith, one))

not_read_on : (m : ℕ) (c : List ExtHeader) → (m ≡ 51 → 1 ≤ length c) → (is_empty (linked_headers m c) && (m == 51)) ≡ false
not_read_on m [] last = elim (cases_Bool (m == 51)) [
  | inl s ↦ absurd (omega (arith, last (eqb-true m 51 s)))
  | inr s ↦ s
]
not_read_on m (h ∷ c) last = refl

none_after : (m : ℕ) (c : List ExtHeader) (first : Bool) (r : List ℕ) (h : ExtHeader) → (m ≡ 51 → 1 ≤ length c) → IsNext first m r h → AtMostOneOf 51 (linked_headers m c ++ h ∷ []) → ⊥
none_after m c first r h last x o =
    let number : m ≡ 51 = sym x.number ∙ all_next (λ g. g.number ≡ 51) (linked_headers m c) h o.number in
    omega (arith, last number, o.one, joined_count m c, length-append (linked_headers m c) (h ∷ []))

-- the headers end at the payload
ends_at_payload : (b : List ℕ) (o : Option ℕ) (offset n : ℕ) (x : List ℕ) (c : List ExtHeader) → is_too_short b ≡ false → offset ≡ 0 → (is_empty c && (leads_to n c == 51)) ≡ false
    → (if is_too_short b then Fault (Len (too_short Ipv4HeaderTotalLen (total_len b) 0 Ipv4Packet (length b))) None else if not (offset == 0) then LaterFragment
    else option_map_or (auth_end o x) (option_map (auth_in_packet Slice (length b)) (fault_after (ipv4_faults Slice) c n x)) Payload) ≡ Payload
ends_at_payload b o offset n x c short zero last = rw (short, zero, last) refl

module _ (b : List ℕ) (header : IsIpv4Header b) (c : List ExtHeader) (m t : ℕ) (q : List ℕ) where
  abbrev changed : List ℕ
  changed = slice_set b 9 (number_of_first c m)

  abbrev pub sent_base4 : List ℕ
  sent_base4 = base_stating 4 changed t

  abbrev pub sent4 : List ℕ
  sent4 = sent_base4 ++ bytes_of (linked_headers m c) ++ q

  base_len : length sent_base4 ≡ length b
  base_len = word_len (without_checksum changed t) 10 (checksum_of (without_checksum changed t)) ∙ (word_len (with_word changed 2 t) 10 0 ∙ (word_len changed 2 t ∙ length-set b 9 (number_of_first c m)))

  -- the bytes of neither checksum nor total length, and then those of no protocol either
  byte_after : (j : ℕ) → j ≢ 10 → j ≢ 11 → slice_index sent_base4 j ≡ slice_index (with_word changed 2 t) j
  byte_after j p r =
      word_other (without_checksum changed t) 10 (checksum_of (without_checksum changed t)) j p (λ e. r (omega (arith, e)))
      ∙ word_other (with_word changed 2 t) 10 0 j p (λ e. r (omega (arith, e)))

  byte : (j : ℕ) → j ≢ 2 → j ≢ 3 → j ≢ 10 → j ≢ 11 → slice_index sent_base4 j ≡ slice_index changed j
  byte j p q r s = byte_after j r s ∙ word_other changed 2 t j p (λ e. q (omega (arith, e)))

  old : (j : ℕ) → j ≢ 2 → j ≢ 3 → j ≢ 9 → j ≢ 10 → j ≢ 11 → slice_index sent_base4 j ≡ slice_index b j
  old j p q n r s = byte j p q r s ∙ get_or-set_other b 9 j (number_of_first c m) 0 n

  first : slice_index sent_base4 0 ≡ slice_index b 0
  first = old 0 (λ e. cc) (λ e. cc) (λ e. cc) (λ e. cc) (λ e. cc)

  is_base : IsIpv4Header sent_base4
  is_base = record {
    version = ap (λ x. x / 16) first ∙ header.version;
    least = subst (λ x. 5 ≤ x % 16) (sym first) header.least;
    len = base_len ∙ (header.len ∙ ap (λ x. 4 * (x % 16)) (sym first));
  }

  least : 20 ≤ length b
  least = omega (arith, header.least, header.len)

  names : protocol sent_base4 ≡ number_of_first c m
  names = byte 9 (λ e. cc) (λ e. cc) (λ e. cc) (λ e. cc) ∙ get_or-set_same b 9 (number_of_first c m) 0 (omega (arith, least))

  pub stated : t < 65536 → total_len sent_base4 ≡ t
  stated small =
      range_same (with_word changed 2 t) sent_base4 2 (byte_after 2 (λ e. cc) (λ e. cc)) (byte_after 3 (λ e. cc) (λ e. cc))
      ∙ word_is changed 2 t (omega (arith, least, length-set b 9 (number_of_first c m))) small

  high : slice_index sent_base4 6 ≡ slice_index b 6
  high = old 6 (λ e. cc) (λ e. cc) (λ e. cc) (λ e. cc) (λ e. cc)

  low : slice_index sent_base4 7 ≡ slice_index b 7
  low = old 7 (λ e. cc) (λ e. cc) (λ e. cc) (λ e. cc) (λ e. cc)

  more : ipv4_more_fragments sent_base4 ≡ ipv4_more_fragments b
  more = ap (λ x. not (bit_and x 0x20 == 0)) high

  offset : ipv4_fragment_offset sent_base4 ≡ ipv4_fragment_offset b
  offset = ap (λ x. 256 * bit_and x 0x1f + slice_index sent_base4 7) high ∙ ap (λ x. 256 * bit_and (slice_index b 6) 0x1f + x) low

  identification : ipv4_identification sent_base4 ≡ ipv4_identification b
  identification = range_same b sent_base4 4 (old 4 (λ e. cc) (λ e. cc) (λ e. cc) (λ e. cc) (λ e. cc)) (old 5 (λ e. cc) (λ e. cc) (λ e. cc) (λ e. cc) (λ e. cc))

  fragment_is : ipv4_fragment sent_base4 ≡ ipv4_fragment b
  fragment_is = fragment_same (ipv4_more_fragments sent_base4) (ipv4_more_fragments b) (ipv4_identification sent_base4) (ipv4_identification b) (ipv4_fragment_offset sent_base4) (ipv4_fragment_offset b) more identification offset

  abbrev after : List ℕ
  after = bytes_of (linked_headers m c) ++ q

  split : sent4 ≡ sent_base4 ++ after
  split = append_assoc sent_base4 (bytes_of (linked_headers m c)) q

  sent_len : length sent4 ≡ length b + (length (bytes_of c) + length q)
  sent_len = omega (arith, ap length split, base_len, joined_len c m, length-append sent_base4 after, length-append (bytes_of (linked_headers m c)) q)

  begins : IsPrefix sent_base4 sent4
  begins = ap (take (length sent_base4)) split ∙ take-append_seam sent_base4 after

  module _ (zero : ipv4_fragment_offset b ≡ 0) (headers : AreHeaders c) (one : AtMostOneOf 51 c) (last : m ≡ 51 → 1 ≤ length c) (small : t < 65536) (is : (t ≡ 0) ⊎ (t ≡ length b + (length (bytes_of c) + length q))) where
    all_or_none : (total_len sent_base4 ≡ 0) ⊎ (total_len sent_base4 ≡ length sent4)
    all_or_none = elim is [
      | inl none ↦ inl (stated small ∙ none)
      | inr all ↦ inr (omega (arith, stated small, all, sent_len))
    ]

    long_enough : (total_len sent_base4 ≡ 0) ⊎ (length sent_base4 ≤ total_len sent_base4)
    long_enough = elim is [
      | inl none ↦ inl (stated small ∙ none)
      | inr all ↦ inr (omega (arith, stated small, all, base_len))
    ]

    whole : packet_bytes sent_base4 (ipv4_stated sent_base4) sent4 ≡ sent4
    whole = all_stated sent_base4 sent4 (total_len sent_base4) (total_len sent_base4) (omega (arith, base_len, sent_len)) all_or_none

    after_is : after_base sent_base4 (ipv4_stated sent_base4) sent4 ≡ after
    after_is = ap (drop (length sent_base4)) (whole ∙ split) ∙ drop-append_seam sent_base4 after

    short : is_too_short sent_base4 ≡ false
    short = not_short (total_len sent_base4) (length sent_base4) long_enough

    abbrev d : List ExtHeader
    d = linked_headers m c

    leads : leads_to (number_of_first c m) d ≡ m
    leads = joined_leads m c headers

    longest : IsLongestUnder (AtMostOneOf 51) (number_of_first c m) after d
    longest = parsed_longest_under (AtMostOneOf 51) (at_most_one_of 51) (number_of_first c m) after d m q
        (has_parsed_before (AtMostOneOf 51) (at_most_one_of 51) (number_of_first c m) m d q (joined_chain m c headers (one_no_zero c one.one)) (joined_one m c one) (sym leads))
        (λ h x r. none_after m c (is_empty d) q h last x r)

    still_zero : ipv4_fragment_offset sent_base4 ≡ 0
    still_zero = offset ∙ zero

    chain_is : ipv4_chain sent_base4 sent4 ≡ d
    chain_is = cond-true (ipv4_fragment_offset sent_base4 == 0) (longest_ipv4_chain (protocol sent_base4) (after_base sent_base4 (ipv4_stated sent_base4) sent4)) [] (eq-eqb (ipv4_fragment_offset sent_base4) 0 still_zero)
        ∙ (ap (λ n. longest_ipv4_chain n (after_base sent_base4 (ipv4_stated sent_base4) sent4)) names ∙ (ap (longest_ipv4_chain (number_of_first c m)) after_is
        ∙ sym (one_longest_under (AtMostOneOf 51) (at_most_one_of 51) (number_of_first c m) after d (longest_ipv4_chain (number_of_first c m) after) longest (ipv4_longest (number_of_first c m) after))))

    number_is : leads_to (protocol sent_base4) (ipv4_chain sent_base4 sent4) ≡ m
    number_is = ap (λ n. leads_to n (ipv4_chain sent_base4 sent4)) names ∙ (ap (leads_to (number_of_first c m)) chain_is ∙ leads)

    payload_is : rest_after (ipv4_chain sent_base4 sent4) (after_base sent_base4 (ipv4_stated sent_base4) sent4) ≡ q
    payload_is = ap (λ e. rest_after e (after_base sent_base4 (ipv4_stated sent_base4) sent4)) chain_is ∙ (ap (rest_after d) after_is ∙ drop-append_seam (bytes_of d) q)

    last_is : (is_empty (ipv4_chain sent_base4 sent4) && (leads_to (protocol sent_base4) (ipv4_chain sent_base4 sent4) == 51)) ≡ false
    last_is = ap (λ n. is_empty (ipv4_chain sent_base4 sent4) && (n == 51)) number_is ∙ (ap (λ e. is_empty e && (m == 51)) chain_is ∙ not_read_on m c last)

    end_is : ipv4_end sent_base4 sent4 ≡ Payload
    end_is = ends_at_payload sent_base4 (ipv4_stated sent_base4) (ipv4_fragment_offset sent_base4) (protocol sent_base4) (after_base sent_base4 (ipv4_stated sent_base4) sent4) (ipv4_chain sent_base4 sent4) short still_zero last_is

    pub sent4_dissected : dissected sent4 ≡ record {
      version = 4;
      base = sent_base4;
      stated = ipv4_stated sent_base4;
      headers = d;
      number = m;
      payload = q;
      fragment = ipv4_fragment b;
      missing = 0;
      padding = [];
      end = Payload;
    }
    sent4_dissected = begun4 sent4 sent_base4 is_base begins ∙ same_parts (ipv4_dissected sent_base4 sent4) _ refl refl refl chain_is number_is payload_is fragment_is
        (none_missing (total_len sent_base4) (total_len sent_base4) (length sent4) all_or_none) (ap (λ x. drop (length x) sent4) whole ∙ drop-length sent4) end_is
