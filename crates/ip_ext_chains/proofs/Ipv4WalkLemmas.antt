-- The encoding of IPv4 extension headers, and the value that it parses to.
use Rattle.ip_spec.proofs.Common.{◌≡◌, ℕ, ◌<◌, List, ◌++◌, length, drop, refl, sym, ap, ◌∙◌, subst, arith, inl, inr, rules, [], Option, Some, None, Ok, ◌↔◌, slice_range, AllByRecursion, option_map_or, ne_eqb, eqb_tells, append-nil, append_cancel_left, length-append, All-set, All-take, All-drop, IsPrefix, IsAuthHeader, next_header, auth, AuthFields, auth_fields, cleared_header, AreBytes, AppendsOne, IsAuthEncoding, IsCleared, cleared_chain, ExtHeader, bytes_of, AtMostOneOf, IsEndUnder, IsParsed, auth_header, IsEncoded, slice_set}
use Rattle.std.specs.declared.result.Result.{Result}
use Rattle.ip_base.specs.declared.ip_number_impl.IpNumber.{IpNumber}
use Rattle.ip_base.specs.declared.len_source.LenSource.TheVariants.{Slice}
use Rattle.ip_spec.proofs.PrefixLemmas.{prefix_first}
use Rattle.ip_spec.proofs.StepLemmas.{no_chain}
use Rattle.ip_spec.proofs.UnderLemmas.{one_longest_under}
use Rattle.ip_spec.proofs.ParsedLemmas.{whole_parsed, parsed_again}
use Rattle.ip_spec.proofs.DemandKinds.{at_most_one_of}
use Rattle.ip_spec.proofs.EncodingLemmas.{auth_written, auth_only}
use Rattle.ip_spec.proofs.EncodedLemmas.{of_number, cleared_is_encoding, encoding_is as encoded_bytes}
use Rattle.ip_spec.proofs.ClearedLemmas.{cleared_encodes as header_encodes}
use Rattle.ip_base.specs.declared.err.ipv4_exts.exts_walk_error.ExtsWalkError.{ExtsWalkError}
use Rattle.ip_ext_slices.specs.Ipv4Longest.{longest_ipv4_chain}
use Rattle.ip_ext_chains.specs.Ipv4Parse.{ipv4_value, IsIpv4Answer}
use Rattle.ip_ext_slices.specs.Ipv4Fault.{ipv4_faults}
use Rattle.ip_ext_chains.specs.Ipv4Walk.{ipv4_walk, IsIpv4Encoding}
use Rattle.ip_ext_slices.proofs.Ipv4Lemmas.{ipv4_longest, one_longest, chain_of, by_one}

-- a value determines its encoding
encoding_is : (f : ℕ) (v : Option AuthFields) (b : List ℕ) → IsIpv4Encoding f v b → b ≡ option_map_or auth_written v []
encoding_is f v b (m, e) =
    sym e.all ∙ (by_one (λ c. AllByRecursion IsCleared c → bytes_of c ≡ option_map_or auth_written (ipv4_value c) []) f (λ z. refl) (λ d named h z. append-nil d
    ∙ auth_only (auth_fields d) d (record { header = h; fields = refl; cleared = z.0 })) e.chain e.longest.has.0.chain e.longest.has.1 e.value.1)
    ∙ ap (λ u. option_map_or auth_written u []) e.value.0

-- so at most one list encodes a value
pub one_ipv4_encoding : (f : ℕ) (v : Option AuthFields) (b d : List ℕ) → IsIpv4Encoding f v b → IsIpv4Encoding f v d → b ≡ d
one_ipv4_encoding f v b d x y = encoding_is f v b x ∙ sym (encoding_is f v d y)

-- and a list encodes at most one value
pub one_ipv4_encoded : (f : ℕ) (v w : Option AuthFields) (b : List ℕ) → IsIpv4Encoding f v b → IsIpv4Encoding f w b → v ≡ w
one_ipv4_encoded f v w b (m, x) (n, y) = cc (one_longest_under (AtMostOneOf 51) (at_most_one_of 51) f b x.chain y.chain x.longest y.longest, x.value.0, y.value.0)

abbrev HasValue : Option AuthFields → List ExtHeader → Type 0
HasValue v c = (ipv4_value c ≡ v) × AllByRecursion IsCleared c

-- the empty list encodes a value without a header
pub none_encodes : (f : ℕ) (v : Option AuthFields) → v ≡ None → IsIpv4Encoding f v []
none_encodes f v e = (f, whole_parsed (AtMostOneOf 51) (at_most_one_of 51) f f (HasValue v) [] [] (no_chain f) (at_most_one_of 51).empty (sym e, tt) refl refl (λ i d l. omega arith))

-- Some header has the fields.
abbrev pub CanBe : AuthFields → Type 0
CanBe w = (h : ExtHeader) × IsEncoded 51 (auth_header w) h

-- Its bytes encode them.
auth_encodes : (w : AuthFields) (h : ExtHeader) → IsEncoded 51 (auth_header w) h → IsAuthEncoding w h.bytes
auth_encodes w h e = search (rules, cleared_is_encoding)

-- These bytes are the only ones, and they encode the header.
pub one_encodes : (f : ℕ) (v : Option AuthFields) (w : AuthFields) (b : List ℕ) → f ≡ 51 → v ≡ Some w → CanBe w → IsAuthEncoding w b → IsIpv4Encoding f v b
one_encodes f v w b named value (h, encoded) e = (
  w.next_header,
  whole_parsed (AtMostOneOf 51) (at_most_one_of 51) f w.next_header (HasValue v) b (chain_of b) (record {
    headers = (auth refl e.header, tt);
    links = (sym named, tt);
    zero_only_first = tt;
  }) (record { one = omega arith; number = (refl, tt) }) (ap Some e.fields ∙ sym value, (e.cleared, tt)) (ap (λ (u : AuthFields). u.next_header) e.fields) (append-nil b)
      (subst AreBytes (encoded_bytes 51 (auth_header w) h b encoded e) encoded.bytes),
)

-- With its reserved bits set to zero, the longest chain encodes its value.
pub cleared_encodes : (n : ℕ) (s : List ℕ) → AreBytes s → IsIpv4Encoding n (ipv4_value (longest_ipv4_chain n s)) (bytes_of (cleared_chain (longest_ipv4_chain n s)))
cleared_encodes n s bytes =
    let l = ipv4_longest n s in
    let E : List ExtHeader → Type 0 = λ c. IsPrefix (bytes_of c) s → IsIpv4Encoding n (ipv4_value c) (bytes_of (cleared_chain c)) in
    by_one E n (λ p. none_encodes n None refl) (λ b named h p.
    let d : List ℕ = cleared_header 51 b in
    let whole : AreBytes b = rw (prefix_first b [] s p) at (All-take (λ x. x < 256) (length b) s bytes) in
    let fixed : AreBytes (slice_range b 1 12) = All-take (λ x. x < 256) 11 (drop 1 b) (All-drop (λ x. x < 256) 1 b whole) in
    let zeros : AreBytes d = All-set (λ x. x < 256) (slice_set b 2 0) 3 0 (omega arith) (All-set (λ x. x < 256) b 2 0 (omega arith) whole) in
    let e : IsAuthEncoding (auth_fields b) d = header_encodes 51 b (auth refl h) fixed in
    rw append-nil (one_encodes n (Some (auth_fields b)) (auth_fields b) d named refl (of_number 51 d, search (rules, zeros, e)) e))
    (longest_ipv4_chain n s) l.has.0.chain l.has.1 l.has.0.prefix

-- the appended bytes encode the value
pub written : (f : ℕ) (v : Option AuthFields) (old new b : List ℕ) → AppendsOne (IsIpv4Encoding f v) old new → new ≡ old ++ b → IsIpv4Encoding f v b
written f v old new b a e = search (rules, append_cancel_left, a)

-- Bytes s parse as v with nothing left.
abbrev IsParsedAs : Option AuthFields → ℕ → ℕ → List ℕ → Type 0
IsParsedAs v f m s = IsParsed (AtMostOneOf 51) (λ c. ipv4_value c ≡ v) f m s

-- After a header, or at a number other than 51, there is no further header and no error.
record NothingAfter (c : List ExtHeader) (m : ℕ) (r : List ℕ) : Type 0 where
  ends : IsEndUnder (AtMostOneOf 51) c m r
  fault : None ≡ ipv4_faults Slice c m r

nothing_after : (c : List ExtHeader) (m : ℕ) (r : List ℕ) → (c ≡ [] → m ≡ 51 → ⊥) → NothingAfter c m r
nothing_after c m r other = search (rules, ne_eqb, length-append)

-- if bytes parse as headers, a walk over these leads to the number after them
parsed_leads : (v : Option AuthFields) (f m : ℕ) (s : List ℕ) → IsParsedAs v f m s → ipv4_walk v f ≡ Ok (record { 0 = m })
parsed_leads v f m s r = search rules

module _ (f : ℕ) (v : Option AuthFields) (m : IpNumber) where
  -- an encoding of headers parses as these headers, with nothing left
  pub encoding_parsed : (b : List ℕ) → IsIpv4Encoding f v b → ipv4_walk v f ≡ Ok m → IsParsedAs v f m.0 b
  encoding_parsed b h1 walk = search rules

  -- and with more bytes after it, unless a header starts there
  pub encoding_parsed_again : (b r : List ℕ) → IsIpv4Encoding f v b → ipv4_walk v f ≡ Ok m → (v ≡ None → f ≡ 51 → ⊥) → IsIpv4Answer ipv4_value f (b ++ r) v m.0 r None
  encoding_parsed_again b r e walk other =
      let x : IsParsedAs v f m.0 b = encoding_parsed b e walk in
      let after : NothingAfter x.chain m.0 r = nothing_after x.chain m.0 r (λ none is. other (cc (x.value)) (cc (x.number))) in
      parsed_again (AtMostOneOf 51) (at_most_one_of 51) f m.0 ipv4_value (ipv4_faults Slice) v None b r x after.ends after.fault

-- If the headers lead to a number, some bytes parse as them, and vice versa.
leads_parsed : (f : ℕ) (v : Option AuthFields) (m : IpNumber) → ((w : AuthFields) → v ≡ Some w → CanBe w) → ipv4_walk v f ≡ Ok m → (s : List ℕ) × IsParsedAs v f m.0 s
leads_parsed f None m encoded walk = ([], encoding_parsed f None m [] (none_encodes f None refl) walk)
leads_parsed f (Some w) m encoded walk = elim (eqb_tells f 51) [
  | inl named ↦ let (h, e) = encoded w refl in (h.bytes, encoding_parsed f (Some w) m h.bytes (one_encodes f (Some w) w h.bytes named.1 refl (h, e) (auth_encodes w h e)) walk)
  | inr other ↦ absurd (search rules)
]

pub walk_parsed : (f : ℕ) (v : Option AuthFields) (m : IpNumber) (x : Result IpNumber ExtsWalkError) → ((w : AuthFields) → v ≡ Some w → CanBe w) → x ≡ ipv4_walk v f → (x ≡ Ok m) ↔ ((s : List ℕ) × IsParsedAs v f m.0 s)
walk_parsed f v m x encoded is = search (rules, leads_parsed, parsed_leads)

-- the result of a parse where the number is 51 and an authentication header starts the bytes
pub answer_of_one : (n : ℕ) (s b : List ℕ) (m : ℕ) (r : List ℕ) → n ≡ 51 → IsAuthHeader b → IsPrefix b s → m ≡ next_header b → r ≡ drop (length b) s → IsIpv4Answer (λ c. c) n s (chain_of b) m r None
answer_of_one n s b m r e header prefix number rest = search (rules, one_longest, append-nil)
