-- Packets without extension headers.
use Rattle.ip_spec.proofs.Common.{◌≡◌, ℕ, ◌+◌, List, [], ◌∷◌, length, subst, refl, sym, ap, ◌∙◌, arith, rules, common_steps, inr, Bool, true, false, Option, None, is_some, IsSome, option_map, option_map_or, if◌then◌else◌, ◌==◌, ◌&&◌, not, IsExtensionNumber, ExtHeader, leads_to, bytes_of, is_empty, rest_after, fault_after, AtMostOneOf, IsLongestUnder}
use Rattle.ip_spec.proofs.ParsedLemmas.{has_parsed_none, parsed_longest_under}
use Rattle.ip_spec.proofs.UnderLemmas.{one_longest_under, longest_ends_under}
use Rattle.ip_base.specs.LenError.{too_short}
use Rattle.ip_base.specs.declared.len_source.LenSource.TheVariants.{Slice, Ipv4HeaderTotalLen}
use Rattle.ip_base.specs.declared.err.layer.Layer.TheVariants.{Ipv4Packet}
use Rattle.ip_ext_headers.specs.HeaderFault.{auth_fault, auth_in_packet}
use Rattle.ip_ext_headers.specs.declared.err.ip_auth.header_slice_error.HeaderSliceError.{HeaderSliceError as AuthError}
use Rattle.ip_ext_slices.specs.Ipv4Fault.{ipv4_faults}
use Rattle.ip_ext_slices.specs.Ipv4Longest.{longest_ipv4_chain}
use Rattle.ip_ext_slices.proofs.Ipv4Lemmas.{ipv4_longest, by_one}
use Rattle.ip_spec.proofs.DemandKinds.{at_most_one_of}
use Rattle.ip_base.specs.Ipv4Header.{total_len, protocol, ipv4_fragment_offset, is_ipv4_fragmenting}
use Rattle.ip_base.specs.Ipv6Header.{ipv6_next_header}
use Rattle.ip_base.specs.declared.err.ip.slice_error.SliceError.TheVariants.{Len}
use Rattle.ip_ext_slices.specs.ChainFault.{slice_fault, auth_at}
use Rattle.ip_ext_slices.proofs.FaultLemmas.{fault_at_end, end_at_other, no_fault_at_other}
use Rattle.ip_dissect.specs.LaterDemand.{has_later, NothingAfterLater, nothing_after_later}
use Rattle.ip_dissect.specs.Later.{chain_to_later}
use Rattle.ip_dissect.specs.Extent.{after_base, ipv4_stated, ipv4_chain, ipv6_stated, ipv6_chain}
use Rattle.ip_dissect.specs.Fragment.{ipv4_fragment, ipv6_fragment}
use Rattle.ip_dissect.specs.End.{has_error, exts_end, auth_end, is_too_short, ipv4_end, ipv6_end}
use Rattle.ip_dissect.specs.Dissection.{DissectedParts, dissected, ipv4_dissected, ipv6_dissected}
use Rattle.ip_dissect.proofs.DissectedLemmas.{BeginNone, begins_none, base_error}
use Rattle.ip_dissect.specs.Summary.{is_plain, IsBaseOf}
use Rattle.ip_dissect.specs.declared.fragment.Fragment.{Fragment}
use Rattle.ip_dissect.specs.declared.end.End.{End}
use Rattle.ip_dissect.specs.declared.end.End.TheVariants.{Payload, LaterFragment, Fault}
use Rattle.ip_dissect.proofs.LaterLemmas.{chain_to_later-longest}
use Rattle.ip_dissect.proofs.SummaryLemmas.{auth_end_fails, end_after, end_with}

pub plain_is : (c : List ExtHeader) (f : Option Fragment) (e : End) → c ≡ [] → f ≡ None → e ≡ Payload → (not (has_error e) && is_empty c && not (is_some f)) ≡ true
plain_is c f e none whole ends = rw (none, whole, ends) refl

pub not_plain : (c : List ExtHeader) (f : Option Fragment) (e : End) → (c ≡ [] → has_error e ≡ true) → (not (has_error e) && is_empty c && not (is_some f)) ≡ false
not_plain [] f e wrong = rw (wrong refl) refl
not_plain (h ∷ c) f e wrong = grind (arith, common_steps)

pub error_not_plain : (p : DissectedParts) → has_error p.end ≡ true → is_plain p ≡ false
error_not_plain p e = rw e refl

pub none_not_plain : (s : List ℕ) → IsBaseOf s None → is_plain (dissected s) ≡ false
none_not_plain s is = let w : BeginNone s = begins_none s is in error_not_plain (dissected s) (ap (λ (p : DissectedParts). has_error p.end) w.is ∙ base_error s w.reason w.ends)

with_fragment : (c : List ExtHeader) (f : Option Fragment) (e : End) → IsSome f → (not (has_error e) && is_empty c && not (is_some f)) ≡ false
with_fragment c f e some = grind (arith, common_steps)

-- no header follows a number that is no extension header's
pub none_at_other : (n : ℕ) (s : List ℕ) → (IsExtensionNumber n → ⊥) → chain_to_later n s ≡ []
none_at_other n s other = search (rules, one_longest_under, chain_to_later-longest, parsed_longest_under, has_parsed_none, end_at_other)

none_at_other4 : (n : ℕ) (s : List ℕ) → (n ≡ 51 → ⊥) → longest_ipv4_chain n s ≡ []
none_at_other4 n s other = search (rules, ipv4_longest, by_one)

-- the end after the chain c from n at the start of x
abbrev end_of : Option ℕ → ℕ → List ℕ → List ExtHeader → End
end_of t n x c = end_after (has_later c) t (rest_after c x) (slice_fault (40 + length (bytes_of c)) (is_empty c) (leads_to n c) (rest_after c x))

-- and after an IPv4 one
abbrev end4_of : List ℕ → Option ℕ → ℕ → ℕ → List ℕ → List ExtHeader → End
end4_of b t offset n x c =
    if is_too_short b then Fault (Len (too_short Ipv4HeaderTotalLen (total_len b) 0 Ipv4Packet (length b))) None
    else if not (offset == 0) then LaterFragment
    else option_map_or (auth_end t x) (option_map (auth_in_packet Slice (length b)) (fault_after (ipv4_faults Slice) c n x)) Payload

chain_if : (offset : ℕ) (c : List ExtHeader) → offset ≡ 0 → (if offset == 0 then c else []) ≡ [] → c ≡ []
chain_if offset c zero none = grind (arith, common_steps)

-- where no authentication header follows its number, there is an error
auth_error_there : (x : List ℕ) → longest_ipv4_chain 51 x ≡ [] → IsSome (auth_fault Slice (length x) 0 x)
auth_error_there x none =
    let ends = longest_ends_under (AtMostOneOf 51) (at_most_one_of 51) 51 x [] (subst (λ c. IsLongestUnder (AtMostOneOf 51) 51 x c) none (ipv4_longest 51 x)) in
    let some : IsSome (option_map auth_at (auth_fault Slice (length x) 0 x)) = fault_at_end Slice (length x) x 0 true 51 (inr (inr refl)) (λ h y. ends h y (record { one = omega arith; number = (y.number, tt) })) in
    search rules

auth_ends_fail : (t : Option ℕ) (x : List ℕ) (k : ℕ) (o : Option AuthError) → IsSome o → has_error (option_map_or (auth_end t x) (option_map (auth_in_packet Slice k) o) Payload) ≡ true
auth_ends_fail t x k o some = search (rules, auth_end_fails t x)

either_fails : (first : Bool) (d e : End) → has_error d ≡ true → has_error e ≡ true → has_error (if first then d else e) ≡ true
either_fails true d e p q = p
either_fails false d e p q = q

end4_fails : (b : List ℕ) (t : Option ℕ) (offset n : ℕ) (x : List ℕ) → offset ≡ 0 → n ≡ 51 → IsSome (auth_fault Slice (length x) 0 x) → has_error (end4_of b t offset n x []) ≡ true
end4_fails b t offset n x zero auth some = rw (zero, auth) (either_fails (is_too_short b) _ _ refl (auth_ends_fail t x (length b) (auth_fault Slice (length x) 0 x) some))

module _ (b s : List ℕ) where
  abbrev number : ℕ
  number = ipv6_next_header b

  abbrev rest : List ℕ
  rest = after_base b (ipv6_stated b) s

  pub ipv6_none : (IsExtensionNumber number → ⊥) → ipv6_chain b s ≡ []
  ipv6_none other = none_at_other number rest other

  pub ipv6_whole : (IsExtensionNumber number → ⊥) → ipv6_fragment (ipv6_chain b s) ≡ None
  ipv6_whole other = ap ipv6_fragment (ipv6_none other)

  pub ipv6_payload : (IsExtensionNumber number → ⊥) → ipv6_end b s ≡ Payload
  ipv6_payload other = ap (end_of (ipv6_stated b) number rest) (ipv6_none other)
      ∙ ap (λ o. option_map_or (exts_end (ipv6_stated b) rest) o Payload) (no_fault_at_other Slice (length rest) true number rest 40 other)

  -- where an extension header's number follows the base header, there is a header or an error
  pub ipv6_fails : IsExtensionNumber number → ipv6_chain b s ≡ [] → has_error (ipv6_end b s) ≡ true
  ipv6_fails is none =
      let ends = longest_ends_under NothingAfterLater nothing_after_later number rest [] (subst (λ c. IsLongestUnder NothingAfterLater number rest c) none (chain_to_later-longest number rest)) in
      let some : IsSome (slice_fault 40 true number rest) = fault_at_end Slice (length rest) rest 40 true number is (λ h x. ends h x (λ t. refl, tt)) in
      ap (λ c. has_error (end_of (ipv6_stated b) number rest c)) none ∙ end_with false (ipv6_stated b) rest (slice_fault 40 true number rest) (search rules)

  pub ipv6_not_plain : IsExtensionNumber number → is_plain (ipv6_dissected b s) ≡ false
  ipv6_not_plain is = not_plain (ipv6_chain b s) (ipv6_fragment (ipv6_chain b s)) (ipv6_end b s) (ipv6_fails is)

  -- an IPv4 packet with too small a total length, a fragment, and one with an authentication header
  pub short_not_plain : is_too_short b ≡ true → is_plain (ipv4_dissected b s) ≡ false
  short_not_plain e = not_plain (ipv4_chain b s) (ipv4_fragment b) (ipv4_end b s) (λ _. rw e refl)

  fragment_there : is_ipv4_fragmenting b ≡ true → IsSome (ipv4_fragment b)
  fragment_there e = search rules

  pub fragment_not_plain : is_ipv4_fragmenting b ≡ true → is_plain (ipv4_dissected b s) ≡ false
  fragment_not_plain e = with_fragment (ipv4_chain b s) (ipv4_fragment b) (ipv4_end b s) (fragment_there e)

  abbrev after4 : List ℕ
  after4 = after_base b (ipv4_stated b) s

  auth_fails : is_ipv4_fragmenting b ≡ false → protocol b ≡ 51 → ipv4_chain b s ≡ [] → has_error (ipv4_end b s) ≡ true
  auth_fails whole auth none =
      let zero : ipv4_fragment_offset b ≡ 0 = grind (arith, common_steps) in
      let chain : longest_ipv4_chain 51 after4 ≡ [] = ap (λ n. longest_ipv4_chain n after4) (sym auth) ∙ chain_if (ipv4_fragment_offset b) (longest_ipv4_chain (protocol b) after4) zero none in
      ap (λ c. has_error (end4_of b (ipv4_stated b) (ipv4_fragment_offset b) (protocol b) after4 c)) none
      ∙ end4_fails b (ipv4_stated b) (ipv4_fragment_offset b) (protocol b) after4 zero auth (auth_error_there after4 chain)

  pub auth_not_plain : is_ipv4_fragmenting b ≡ false → protocol b ≡ 51 → is_plain (ipv4_dissected b s) ≡ false
  auth_not_plain whole auth = not_plain (ipv4_chain b s) (ipv4_fragment b) (ipv4_end b s) (auth_fails whole auth)

  -- and any other one
  module _ (short : is_too_short b ≡ false) (whole : is_ipv4_fragmenting b ≡ false) (other : protocol b ≡ 51 → ⊥) where
    pub ipv4_none : ipv4_chain b s ≡ []
    ipv4_none = search (rules, none_at_other4 (protocol b) after4)

    pub ipv4_whole : ipv4_fragment b ≡ None
    ipv4_whole = grind (arith, common_steps)

    pub ipv4_payload : ipv4_end b s ≡ Payload
    ipv4_payload = ap (end4_of b (ipv4_stated b) (ipv4_fragment_offset b) (protocol b) after4) ipv4_none ∙ grind (arith, common_steps)
