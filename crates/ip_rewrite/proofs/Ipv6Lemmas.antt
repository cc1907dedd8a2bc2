-- How an IPv6 packet that was written dissects.
use Rattle.ip_spec.proofs.Common.{◌≡◌, ◌≢◌, ℕ, ◌+◌, ◌/◌, ◌≤◌, ◌<◌, ◌⊎◌, inl, inr, List, [], ◌∷◌, ◌++◌, length, take, drop, subst, refl, sym, ◌∙◌, ap, arith, common_steps, Bool, true, false, if◌then◌else◌, Option, None, Some, option_map_or, ◌==◌, slice_set, slice_index, length-append, length-set, get_or-set_other, get_or-set_same, take-append_seam, drop-append_seam, take_all, drop-length, append_assoc, IsExtensionNumber, IsPrefix, IsNext, is_empty, ExtHeader, IsLongestUnder, leads_to, bytes_of, rest_after}
use Rattle.ip_spec.proofs.ParsedLemmas.{has_parsed_before, parsed_longest_under}
use Rattle.ip_spec.proofs.UnderLemmas.{one_longest_under}
use Rattle.ip_base.specs.Ipv6Header.{IsIpv6Header, payload_length, ipv6_next_header}
use Rattle.ip_ext_slices.specs.ChainFault.{slice_fault}
use Rattle.ip_base.specs.declared.len_source.LenSource.TheVariants.{Slice}
use Rattle.ip_ext_slices.proofs.FaultLemmas.{end_at_other, no_fault_at_other}
use Rattle.ip_dissect.specs.LaterDemand.{has_later, NothingAfterLater, nothing_after_later}
use Rattle.ip_dissect.specs.Later.{chain_to_later}
use Rattle.ip_dissect.specs.Fragment.{ipv6_fragment}
use Rattle.ip_dissect.specs.Extent.{packet_bytes, after_base, missing_of, ipv6_stated, ipv6_chain}
use Rattle.ip_dissect.specs.End.{exts_end, ipv6_end}
use Rattle.ip_dissect.specs.Dissection.{DissectedParts, ipv6_dissected, dissected}
use Rattle.ip_dissect.specs.declared.end.End.{End}
use Rattle.ip_dissect.specs.declared.end.End.TheVariants.{LaterFragment, Payload}
use Rattle.ip_dissect.proofs.LaterLemmas.{chain_to_later-longest, none_follows}
use Rattle.ip_dissect.proofs.DissectedLemmas.{begun6}
use Rattle.ip_rewrite.specs.Headers.{number_of_first, linked_headers}
use Rattle.ip_rewrite.specs.Base.{base_stating}
use Rattle.ip_rewrite.proofs.FrontLemmas.{joined_len}
use Rattle.ip_rewrite.proofs.ChainLemmas.{AreHeaders, NoZero, joined_chain, joined_leads, joined_later, joined_demand}
use Rattle.ip_base.proofs.ChecksumLemmas.{word_len, word_other}
use Rattle.ip_rewrite.proofs.FieldLemmas.{word_is}

-- parts with the same fields
pub same_parts : (x y : DissectedParts) → x.version ≡ y.version → x.base ≡ y.base → x.stated ≡ y.stated → x.headers ≡ y.headers → x.number ≡ y.number → x.payload ≡ y.payload → x.fragment ≡ y.fragment
    → x.missing ≡ y.missing → x.padding ≡ y.padding → x.end ≡ y.end → x ≡ y
same_parts x y a b c d e f g h i j = rw (a, b, c, d, e, f, g, h, i, j) refl

-- the stated length is 0, or that of all bytes s
pub all_stated : (b s : List ℕ) (n k : ℕ) → length b ≤ length s → (n ≡ 0) ⊎ (k ≡ length s) → packet_bytes b (if n == 0 then None else Some k) s ≡ s
all_stated b s n k fits is = grind (arith, common_steps, take_all)

pub none_missing : (n k j : ℕ) → (n ≡ 0) ⊎ (k ≡ j) → missing_of (if n == 0 then None else Some k) j ≡ 0
none_missing n k j is = grind (arith, common_steps)

-- the headers end at the payload if none is a later fragment's and their number is no extension header's
ends_at_payload : (t : Option ℕ) (n : ℕ) (x : List ℕ) (c : List ExtHeader) → has_later c ≡ false → (IsExtensionNumber (leads_to n c) → ⊥)
    → (if has_later c then LaterFragment else option_map_or (exts_end t (rest_after c x)) (slice_fault (40 + length (bytes_of c)) (is_empty c) (leads_to n c) (rest_after c x)) Payload) ≡ Payload
ends_at_payload t n x c later other = rw (later, no_fault_at_other Slice (length (rest_after c x)) (is_empty c) (leads_to n c) (rest_after c x) (40 + length (bytes_of c)) other) refl

-- the end after headers without an error
abbrev pub end_after : Bool → End
end_after later = if later then LaterFragment else Payload

ends_after : (l : Bool) (t : Option ℕ) (n : ℕ) (x : List ℕ) (c : List ExtHeader) → has_later c ≡ l → (l ≡ false → IsExtensionNumber (leads_to n c) → ⊥)
    → (if has_later c then LaterFragment else option_map_or (exts_end t (rest_after c x)) (slice_fault (40 + length (bytes_of c)) (is_empty c) (leads_to n c) (rest_after c x)) Payload) ≡ end_after l
ends_after true t n x c later other = rw later refl
ends_after false t n x c later other = ends_at_payload t n x c later (other refl)

-- no header follows
none_more : (l : Bool) (c : List ExtHeader) (m : ℕ) (q : List ℕ) → has_later c ≡ l → (l ≡ false → IsExtensionNumber m → ⊥) → (h : ExtHeader) → IsNext (is_empty c) m q h → NothingAfterLater (c ++ h ∷ []) → ⊥
none_more true c m q later other h x r = none_follows c h later r
none_more false c m q later other h x r = end_at_other (is_empty c) m q (other refl) h x

module _ (b : List ℕ) (header : IsIpv6Header b) (c : List ExtHeader) (m t : ℕ) (q : List ℕ) where
  abbrev pub sent_base6 : List ℕ
  sent_base6 = base_stating 6 (slice_set b 6 (number_of_first c m)) t

  abbrev pub sent6 : List ℕ
  sent6 = sent_base6 ++ bytes_of (linked_headers m c) ++ q

  base_len : length sent_base6 ≡ 40
  base_len = word_len (slice_set b 6 (number_of_first c m)) 4 t ∙ (length-set b 6 (number_of_first c m) ∙ header.len)

  byte : (j : ℕ) → j ≢ 4 → j ≢ 5 → slice_index sent_base6 j ≡ slice_index (slice_set b 6 (number_of_first c m)) j
  byte j p r = word_other (slice_set b 6 (number_of_first c m)) 4 t j p (λ e. r (omega (arith, e)))

  is_base : IsIpv6Header sent_base6
  is_base = record {
    version = ap (λ x. x / 16) (byte 0 (λ e. cc) (λ e. cc) ∙ get_or-set_other b 6 0 (number_of_first c m) 0 (λ e. cc)) ∙ header.version;
    len = base_len;
  }

  next : ipv6_next_header sent_base6 ≡ number_of_first c m
  next = byte 6 (λ e. cc) (λ e. cc) ∙ get_or-set_same b 6 (number_of_first c m) 0 (omega (arith, header.len))

  pub stated : t < 65536 → payload_length sent_base6 ≡ t
  stated small = word_is (slice_set b 6 (number_of_first c m)) 4 t (omega (arith, header.len, length-set b 6 (number_of_first c m))) small

  abbrev after : List ℕ
  after = bytes_of (linked_headers m c) ++ q

  split : sent6 ≡ sent_base6 ++ after
  split = append_assoc sent_base6 (bytes_of (linked_headers m c)) q

  sent_len : length sent6 ≡ 40 + (length (bytes_of c) + length q)
  sent_len = omega (arith, ap length split, base_len, joined_len c m, length-append sent_base6 after, length-append (bytes_of (linked_headers m c)) q)

  begins : IsPrefix sent_base6 sent6
  begins = ap (take (length sent_base6)) split ∙ take-append_seam sent_base6 after

  module _ (l : Bool) (headers : AreHeaders c) (zero : NoZero (drop 1 c)) (later : has_later c ≡ l) (demand : NothingAfterLater c) (other : l ≡ false → IsExtensionNumber m → ⊥) (small : t < 65536) (is : (t ≡ 0) ⊎ (t ≡ length (bytes_of c) + length q)) where
    all_or_none : (payload_length sent_base6 ≡ 0) ⊎ (40 + payload_length sent_base6 ≡ length sent6)
    all_or_none = elim is [
      | inl none ↦ inl (stated small ∙ none)
      | inr all ↦ inr (omega (arith, stated small, all, sent_len))
    ]

    whole : packet_bytes sent_base6 (ipv6_stated sent_base6) sent6 ≡ sent6
    whole = all_stated sent_base6 sent6 (payload_length sent_base6) (40 + payload_length sent_base6) (omega (arith, base_len, sent_len)) all_or_none

    after_is : after_base sent_base6 (ipv6_stated sent_base6) sent6 ≡ after
    after_is = ap (drop (length sent_base6)) (whole ∙ split) ∙ drop-append_seam sent_base6 after

    abbrev d : List ExtHeader
    d = linked_headers m c

    leads : leads_to (number_of_first c m) d ≡ m
    leads = joined_leads m c headers

    still_later : has_later d ≡ l
    still_later = joined_later m c ∙ later

    longest : IsLongestUnder NothingAfterLater (number_of_first c m) after d
    longest = parsed_longest_under NothingAfterLater nothing_after_later (number_of_first c m) after d m q
        (has_parsed_before NothingAfterLater nothing_after_later (number_of_first c m) m d q (joined_chain m c headers zero) (joined_demand m c demand) (sym leads))
        (none_more l d m q still_later other)

    chain_is : ipv6_chain sent_base6 sent6 ≡ d
    chain_is = ap (λ n. chain_to_later n (after_base sent_base6 (ipv6_stated sent_base6) sent6)) next ∙ (ap (chain_to_later (number_of_first c m)) after_is
        ∙ sym (one_longest_under NothingAfterLater nothing_after_later (number_of_first c m) after d (chain_to_later (number_of_first c m) after) longest (chain_to_later-longest (number_of_first c m) after)))

    number_is : leads_to (ipv6_next_header sent_base6) (ipv6_chain sent_base6 sent6) ≡ m
    number_is = ap (λ n. leads_to n (ipv6_chain sent_base6 sent6)) next ∙ (ap (leads_to (number_of_first c m)) chain_is ∙ leads)

    payload_is : rest_after (ipv6_chain sent_base6 sent6) (after_base sent_base6 (ipv6_stated sent_base6) sent6) ≡ q
    payload_is = ap (λ e. rest_after e (after_base sent_base6 (ipv6_stated sent_base6) sent6)) chain_is ∙ (ap (rest_after d) after_is ∙ drop-append_seam (bytes_of d) q)

    end_is : ipv6_end sent_base6 sent6 ≡ end_after l
    end_is = ends_after l (ipv6_stated sent_base6) (ipv6_next_header sent_base6) (after_base sent_base6 (ipv6_stated sent_base6) sent6) (ipv6_chain sent_base6 sent6)
        (ap has_later chain_is ∙ still_later) (λ e x. other e (subst IsExtensionNumber number_is x))

    pub sent6_dissected : dissected sent6 ≡ record {
      version = 6;
      base = sent_base6;
      stated = ipv6_stated sent_base6;
      headers = d;
      number = m;
      payload = q;
      fragment = ipv6_fragment d;
      missing = 0;
      padding = [];
      end = end_after l;
    }
    sent6_dissected = begun6 sent6 sent_base6 is_base begins ∙ same_parts (ipv6_dissected sent_base6 sent6) _ refl refl refl chain_is number_is payload_is (ap ipv6_fragment chain_is)
        (none_missing (payload_length sent_base6) (40 + payload_length sent_base6) (length sent6) all_or_none) (ap (λ x. drop (length x) sent6) whole ∙ drop-length sent6) end_is
