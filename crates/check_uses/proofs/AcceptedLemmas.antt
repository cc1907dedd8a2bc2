-- Where `IpSlice::from_slice` is Ok: a dissection ends at the payload, and nothing is missing.
use Rattle.ip_spec.proofs.Common.{◌≡◌, ◌↔◌, IsSome, ℕ, ◌+◌, ◌≤◌, List, length, take, sym, ◌∙◌, refl, arith, rules, common_steps, Bool, false, le-ltb, and-false, fault_after, Option, None, Some, option_map, option_map_or, is_empty, bytes_of, leads_to, ExtHeader, IsPrefix, rest_after, ◌==◌, if◌then◌else◌}
use Rattle.ip_spec.proofs.PrefixLemmas.{prefix-length}
use Rattle.ip_base.specs.declared.len_source.LenSource.{LenSource}
use Rattle.ip_base.specs.declared.len_source.LenSource.TheVariants.{Slice}
use Rattle.ip_base.specs.Ipv4Header.{IsIpv4Header, version, ihl, ipv4_header_len, total_len, protocol, ipv4_fragment_offset}
use Rattle.ip_base.specs.Ipv6Header.{IsIpv6Header, payload_length, ipv6_next_header}
use Rattle.ip_base.proofs.BaseLemmas.{SaysIpv4, says_ipv4, SaysIpv6, says_ipv6}
use Rattle.ip_ext_headers.specs.HeaderFault.{raw_fault, fragment_fault, auth_fault, auth_in_packet}
use Rattle.ip_ext_slices.specs.ChainFault.{Fault, fault_at, slice_fault, chain_fault}
use Rattle.ip_ext_slices.specs.Longest.{longest_chain}
use Rattle.ip_ext_slices.specs.Ipv4Fault.{ipv4_faults, ipv4_chain_fault}
use Rattle.ip_ext_headers.specs.declared.err.ip_auth.header_slice_error.HeaderSliceError.{HeaderSliceError as AuthSliceError}
use Rattle.etherparse_ip.specs.LenSources.{ipv4_len_source}
use Rattle.etherparse_ip.specs.PacketFault.{ip_fault, ip_of_ipv4, ipv4_fault_after, ipv4_after, ip_of_ipv6, ipv6_fault_after, ipv6_chain_fault, ipv6_after}
use Rattle.etherparse_ip.proofs.PartsLemmas.{strict_fault_of_chain}
use Rattle.ip_dissect.specs.LaterDemand.{has_later}
use Rattle.ip_dissect.specs.Extent.{missing_of, after_base, ipv4_stated, ipv6_stated, ipv4_chain, ipv6_chain}
use Rattle.ip_dissect.specs.End.{base_end, auth_end, ipv4_end, exts_end, ipv6_rest, ipv6_error, ipv6_end}
use Rattle.ip_dissect.specs.Dissection.{dissected}
use Rattle.ip_dissect.specs.declared.end.End.{End}
use Rattle.ip_dissect.specs.declared.end.End.TheVariants as end
use Rattle.check_uses.proofs.AgreementLemmas.{no_later, after_is6, after_is4}
use Rattle.ip_dissect.proofs.DissectedLemmas.{BeginIpv4, begin_ipv4, BeginIpv6, begin_ipv6}

none_before : {A B : Type 0} (f : A → B) (o : Option A) → option_map f o ≡ None → o ≡ None
none_before f o e = search rules

-- whether there is an error doesn't depend on the offset
raw_none : (source : LenSource) (n j k : ℕ) (r : List ℕ) → raw_fault source n j r ≡ None → raw_fault source n k r ≡ None
raw_none source n j k r e = search rules

fragment_none : (source : LenSource) (n j k : ℕ) (r : List ℕ) → fragment_fault source n j r ≡ None → fragment_fault source n k r ≡ None
fragment_none source n j k r e = search rules

auth_none : (source : LenSource) (n j k : ℕ) (r : List ℕ) → auth_fault source n j r ≡ None → auth_fault source n k r ≡ None
auth_none source n j k r e = search rules

fault_none : (source : LenSource) (n j k : ℕ) (first : Bool) (m : ℕ) (r : List ℕ) → fault_at source n j first m r ≡ None → fault_at source n k first m r ≡ None
fault_none source n j k first m r e = search (rules, none_before, raw_none, fragment_none, auth_none)

ends_without_error : (t : Option ℕ) (r : List ℕ) (o : Option Fault) → option_map_or (exts_end t r) o end.Payload ≡ end.Payload → o ≡ None
ends_without_error t r o e = search rules

none_missing : (k n : ℕ) → 40 ≤ n → (missing_of (if k == 0 then None else Some (40 + k)) n ≡ 0) ↔ (40 + k ≤ n)
none_missing k n enough = grind (arith, common_steps)

at_version_6 : (s : List ℕ) → version s ≡ 6 → 40 ≤ length s → ip_fault s ≡ option_map ip_of_ipv6 (ipv6_fault_after s)
at_version_6 s v enough = search rules

whole_of : (s : List ℕ) → ipv6_fault_after s ≡ None → 40 + payload_length s ≤ length s
whole_of s e = grind (arith, common_steps)

no_chain_fault : (s : List ℕ) → chain_fault (ipv6_next_header s) (ipv6_after s) ≡ None → ipv6_chain_fault s ≡ None
no_chain_fault s e = rw e refl

chain_fault_of : (s : List ℕ) → ipv6_chain_fault s ≡ None → chain_fault (ipv6_next_header s) (ipv6_after s) ≡ None
chain_fault_of s e = search (rules, none_before)

module _ (b s : List ℕ) (base : IsIpv6Header b) (prefix : IsPrefix b s) (none : has_later (ipv6_chain b s) ≡ false) where
  -- the longest chain after the base header
  abbrev n : ℕ
  n = ipv6_next_header s

  abbrev x : List ℕ
  x = ipv6_after s

  abbrev c : List ExtHeader
  c = longest_chain n x

  says : SaysIpv6 b s
  says = says_ipv6 b s base prefix

  enough : 40 ≤ length s
  enough = omega (arith, prefix-length b s prefix, base.len)

  after_version : ip_fault s ≡ option_map ip_of_ipv6 (ipv6_fault_after s)
  after_version = at_version_6 s (sym says.version ∙ base.version) enough

  abbrev error_of : List ExtHeader → ℕ → List ℕ → Option Fault
  error_of c n x = slice_fault (40 + length (bytes_of c)) (is_empty c) (leads_to n c) (rest_after c x)

  same_error : ipv6_error b s ≡ error_of c n x
  same_error = cc (after_is6 b s base prefix, no_later (ipv6_next_header b) (after_base b (ipv6_stated b) s) none, says.number)

  -- the error of the chain counts its offset from there, and that of the dissection from the packet's start
  error_none : chain_fault n x ≡ None → ipv6_error b s ≡ None
  error_none e = same_error ∙ fault_none Slice (length (rest_after c x)) (length (bytes_of c)) (40 + length (bytes_of c)) (is_empty c) (leads_to n c) (rest_after c x) e

  chain_none : ipv6_error b s ≡ None → chain_fault n x ≡ None
  chain_none e = fault_none Slice (length (rest_after c x)) (40 + length (bytes_of c)) (length (bytes_of c)) (is_empty c) (leads_to n c) (rest_after c x) (sym same_error ∙ e)

  the_end : ipv6_end b s ≡ option_map_or (exts_end (ipv6_stated b) (ipv6_rest b s)) (ipv6_error b s) end.Payload
  the_end = rw none refl

  none_is_missing : (missing_of (ipv6_stated b) (length s) ≡ 0) ↔ (40 + payload_length s ≤ length s)
  none_is_missing = grind (arith, common_steps, none_missing (payload_length s) (length s) enough, says.payload)

  ipv6_ends : ip_fault s ≡ None → (ipv6_end b s ≡ end.Payload) × (missing_of (ipv6_stated b) (length s) ≡ 0)
  ipv6_ends e =
      let after : ipv6_fault_after s ≡ None = none_before ip_of_ipv6 (ipv6_fault_after s) (sym after_version ∙ e) in
      let whole : 40 + payload_length s ≤ length s = whole_of s after in
      let error : ipv6_error b s ≡ None = error_none (chain_fault_of s (sym (strict_fault_of_chain s whole) ∙ after)) in
      (cc (the_end), none_is_missing.1 whole)

  ipv6_parses : (ipv6_end b s ≡ end.Payload) × (missing_of (ipv6_stated b) (length s) ≡ 0) → ip_fault s ≡ None
  ipv6_parses p = search (rules, ends_without_error, the_end, after_version, strict_fault_of_chain, none_is_missing, no_chain_fault, chain_none)

pub ipv6_accepted : (s : List ℕ) → (dissected s).version ≡ 6 → has_later (dissected s).headers ≡ false → (ip_fault s ≡ None) ↔ (((dissected s).end ≡ end.Payload) × ((dissected s).missing ≡ 0))
ipv6_accepted s v none =
    let w : BeginIpv6 s (take 40 s) = begin_ipv6 s v in
    let none = rw w.is at none in
    rw w.is (ipv6_ends (take 40 s) s w.header w.prefix none, ipv6_parses (take 40 s) s w.header w.prefix none)

-- IPv4
at_version_4 : (s : List ℕ) → version s ≡ 4 → 5 ≤ ihl s → ipv4_header_len s ≤ length s → 1 ≤ length s → ip_fault s ≡ option_map ip_of_ipv4 (ipv4_fault_after s)
at_version_4 s v least header some = search rules

total_of : (s : List ℕ) → ipv4_fault_after s ≡ None → (ipv4_header_len s ≤ total_len s) × (total_len s ≤ length s)
total_of s e = grind (arith, common_steps)

after_total : (s : List ℕ) → ipv4_header_len s ≤ total_len s → total_len s ≤ length s → ipv4_fault_after s ≡ option_map (auth_in_packet ipv4_len_source (ipv4_header_len s)) (ipv4_chain_fault (protocol s) (ipv4_after s))
after_total s header whole = rw (le-ltb (total_len s) (ipv4_header_len s) header, le-ltb (length s) (total_len s) whole) refl

ends_without_auth_error : (t : Option ℕ) (x : List ℕ) (o : Option AuthSliceError) → option_map_or (auth_end t x) o end.Payload ≡ end.Payload → o ≡ None
ends_without_auth_error t x o e = search rules

-- the error of the chain after the base header, with its offset from the packet's start
abbrev ipv4_error : List ℕ → List ℕ → Option AuthSliceError
ipv4_error b s = option_map (auth_in_packet Slice (length b)) (fault_after (ipv4_faults Slice) (ipv4_chain b s) (protocol b) (after_base b (ipv4_stated b) s))

end_of : (b s : List ℕ) → ipv4_fragment_offset b ≡ 0 → length b ≤ total_len b → ipv4_end b s ≡ option_map_or (auth_end (ipv4_stated b) (after_base b (ipv4_stated b) s)) (ipv4_error b s) end.Payload
end_of b s none enough = rw (le-ltb (total_len b) (length b) enough, none, and-false) refl

stated_whole : (b s : List ℕ) → ipv4_end b s ≡ end.Payload → IsSome (ipv4_stated b) → length b ≤ total_len b
stated_whole b s e stated = grind (arith, common_steps)

none_missing_of : (t n : ℕ) → 1 ≤ t → (missing_of (if t == 0 then None else Some t) n ≡ 0) ↔ (t ≤ n)
none_missing_of t n some = grind (arith, common_steps)

is_stated : (b : List ℕ) → 1 ≤ total_len b → IsSome (ipv4_stated b)
is_stated b some = grind (arith, common_steps)

module _ (h s : List ℕ) (base : IsIpv4Header h) (prefix : IsPrefix h s) (none : ipv4_fragment_offset h ≡ 0) where
  header : SaysIpv4 h s
  header = says_ipv4 h s base prefix

  least : 5 ≤ ihl s
  least = omega (arith, base.least, base.len, header.len)

  header_whole : ipv4_header_len s ≤ length s
  header_whole = omega (arith, prefix-length h s prefix, header.len)

  after_header : ip_fault s ≡ option_map ip_of_ipv4 (ipv4_fault_after s)
  after_header = at_version_4 s (sym header.version ∙ base.version) least header_whole (omega (arith, least, header_whole))

  -- if total length isn't below the header length
  module _ (fits : length h ≤ total_len h) where
    some_total : 1 ≤ total_len h
    some_total = omega (arith, fits, base.least, base.len)

    same_auth_error : fault_after (ipv4_faults Slice) (ipv4_chain h s) (protocol h) (after_base h (ipv4_stated h) s) ≡ ipv4_chain_fault (protocol s) (ipv4_after s)
    same_auth_error = search (rules, after_is4, header)

    at_end : ipv4_end h s ≡ option_map_or (auth_end (ipv4_stated h) (after_base h (ipv4_stated h) s)) (ipv4_error h s) end.Payload
    at_end = end_of h s none fits

    whole_if : (missing_of (ipv4_stated h) (length s) ≡ 0) ↔ (total_len s ≤ length s)
    whole_if = grind (arith, common_steps, none_missing_of (total_len h) (length s) some_total, header.total)

    checks : total_len s ≤ length s → ipv4_fault_after s ≡ option_map (auth_in_packet ipv4_len_source (ipv4_header_len s)) (ipv4_chain_fault (protocol s) (ipv4_after s))
    checks whole = after_total s (omega (arith, fits, header.len, header.total)) whole

  ipv4_ends : ip_fault s ≡ None → (ipv4_end h s ≡ end.Payload) × (missing_of (ipv4_stated h) (length s) ≡ 0) × IsSome (ipv4_stated h)
  ipv4_ends e = search (rules, none_before, after_header, total_of, header, checks, at_end, same_auth_error, whole_if, is_stated, some_total)

  ipv4_parses : (ipv4_end h s ≡ end.Payload) × (missing_of (ipv4_stated h) (length s) ≡ 0) × IsSome (ipv4_stated h) → ip_fault s ≡ None
  ipv4_parses p =
      let fits : length h ≤ total_len h = stated_whole h s p.0 p.2 in
      let error : ipv4_error h s ≡ None = ends_without_auth_error (ipv4_stated h) (after_base h (ipv4_stated h) s) (ipv4_error h s) (sym (at_end fits) ∙ p.0) in
      let chain : ipv4_chain_fault (protocol s) (ipv4_after s) ≡ None =
      sym (same_auth_error fits) ∙ none_before (auth_in_packet Slice (length h)) _ error in
      rw (after_header, checks fits ((whole_if fits).0 p.1), chain) refl

pub ipv4_accepted : (s : List ℕ) → (dissected s).version ≡ 4 → ipv4_fragment_offset (dissected s).base ≡ 0 → (ip_fault s ≡ None) ↔ (((dissected s).end ≡ end.Payload) × ((dissected s).missing ≡ 0) × IsSome (dissected s).stated)
ipv4_accepted s v none =
    let w : BeginIpv4 s (take (ipv4_header_len s) s) = begin_ipv4 s v in
    let none = rw w.is at none in
    rw w.is (ipv4_ends _ s w.header w.prefix none, ipv4_parses _ s w.header w.prefix none)

-- bytes that don't start with a base header
pub no_packet_accepted : (s : List ℕ) (e : End) → base_end s ≡ Some e → IsSome (ip_fault s)
no_packet_accepted s e is = search rules
