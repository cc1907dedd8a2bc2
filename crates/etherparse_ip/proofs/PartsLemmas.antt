-- A base header, the headers of the longest chain after it and the bytes after those, joined.
use Rattle.ip_spec.proofs.Common.{◌≡◌, ℕ, ◌+◌, ◌≤◌, List, ◌++◌, length, take, drop, refl, sym, arith, Bool, rules, common_steps, Option, None, option_map, take-take, take-append-drop, take-length, IsPrefix, ExtHeader, bytes_of, has_fragmenting}
use Rattle.ip_spec.proofs.PrefixLemmas.{prefix-append, prefix-length}
use Rattle.ip_spec.proofs.ChainLemmas.{some_longest}
use Rattle.ip_spec.proofs.UnderLemmas.{some_longest_under}
use Rattle.ip_spec.proofs.DemandKinds.{at_most_one_of}
use Rattle.ip_ext_headers.specs.declared.err.ip_auth.header_slice_error.HeaderSliceError.{HeaderSliceError}
use Rattle.ip_ext_headers.specs.HeaderFault.{auth_in_packet}
use Rattle.ip_ext_slices.specs.ChainFault.{Fault, chain_fault, exts_in_packet}
use Rattle.ip_ext_slices.specs.ChainAnswer.{IsChainAnswer}
use Rattle.ip_ext_chains.specs.Ipv4Parse.{IsIpv4Answer}
use Rattle.ip_base.specs.Ipv4Header.{IsIpv4Header, total_len, protocol, is_ipv4_fragmenting}
use Rattle.ip_base.specs.Ipv6Header.{IsIpv6Header, payload_length, ipv6_next_header}
use Rattle.ip_base.specs.declared.len_source.LenSource.{LenSource}
use Rattle.ip_base.specs.declared.len_source.LenSource.TheVariants.{Slice, Ipv4HeaderTotalLen, Ipv6HeaderPayloadLen}
use Rattle.ip_base.proofs.BaseLemmas.{says_ipv4}
use Rattle.ip_ext_slices.specs.Ipv4Fault.{ipv4_chain_fault}
use Rattle.etherparse_ip.specs.LenSources.{front, ipv6_len_source}
use Rattle.etherparse_ip.specs.PacketFault.{ipv4_fault_after, ipv6_chain_fault, ipv6_fault_after}
use Rattle.etherparse_ip.specs.Packet.{IsIpv4Packet, IsIpv6Packet}

answer_split : (n : ℕ) (s : List ℕ) (c : List ExtHeader) (m : ℕ) (r : List ℕ) (f : Option Fault) → IsChainAnswer n s c m r f → bytes_of c ++ r ≡ s
answer_split n s c m r f a = cc (a.value, a.rest, prefix-append _ s (some_longest n s).1.has.prefix)

-- a prefix of s, and the bytes that follow it in a front that is not shorter
onto_front : (b s front x : List ℕ) (k : ℕ) → IsPrefix b s → front ≡ take k s → length b ≤ k → x ≡ drop (length b) front → b ++ x ≡ front
onto_front b s front x k p is enough rest = cc (p, take-take (length b) k s enough, is, rest, take-append-drop (length b) front)

pub ipv4_joined : (b s : List ℕ) (k n : ℕ) (c : List ExtHeader) (m : ℕ) (r : List ℕ) (f : Option HeaderSliceError) → IsPrefix b s → length b ≤ k → IsIpv4Answer (λ c. c) n (drop (length b) (take k s)) c m r f
    → b ++ (bytes_of c ++ r) ≡ take k s
ipv4_joined b s k n c m r f p enough a = grind (arith, common_steps, onto_front, prefix-append, some_longest_under, at_most_one_of)

pub ipv6_joined : (b s front : List ℕ) (k n : ℕ) (c : List ExtHeader) (m : ℕ) (r : List ℕ) (f : Option Fault) → IsPrefix b s → front ≡ take k s → length b ≤ k → IsChainAnswer n (drop (length b) front) c m r f
    → b ++ (bytes_of c ++ r) ≡ front
ipv6_joined b s front k n c m r f p is enough a = search (rules, onto_front, answer_split)

-- An IPv4 base header b of h bytes is at the start of s, its total length is t and its protocol n; x is what follows
-- it within t bytes.
pub record AtIpv4 (s b : List ℕ) (n h t : ℕ) (x : List ℕ) : Type 0 where
  pub base : IsIpv4Header b
  pub prefix : IsPrefix b s
  pub number : n ≡ protocol b
  pub len : h ≡ length b
  pub total : t ≡ total_len b
  pub enough : h ≤ t
  pub within : t ≤ length s
  pub after_base : x ≡ drop h (take t s)

pub ipv4_packet : (s b : List ℕ) (n h t : ℕ) (x : List ℕ) (fragmented : Bool) (c : List ExtHeader) (m : ℕ) (r : List ℕ) → AtIpv4 s b n h t x → fragmented ≡ is_ipv4_fragmenting b
    → IsIpv4Answer (λ c. c) n x c m r None → IsIpv4Packet s (record { base = b; headers = c; payload = r; number = m; fragmented = fragmented; source = Ipv4HeaderTotalLen })
ipv4_packet s b n h t x fragmented c m r at ef a =
    let chain : IsIpv4Answer (λ c. c) (protocol b) (drop (length b) (take (total_len b) s)) c m r None = rw (← at.total, ← at.len, ← at.number, ← at.after_base) a in
    search (rules, ipv4_joined b s (total_len b) (protocol b) c m r None, at)

pub ipv4_after_fault : (s b : List ℕ) (n h t : ℕ) (x : List ℕ) → AtIpv4 s b n h t x → ipv4_fault_after s ≡ option_map (auth_in_packet Ipv4HeaderTotalLen h) (ipv4_chain_fault n x)
ipv4_after_fault s b n h t x at = search (rules, says_ipv4)

-- a property of both length sources of an IPv6 packet holds for the one that it has
either_source : (P : LenSource → Type 0) (n k : ℕ) → P Slice → P Ipv6HeaderPayloadLen → P (ipv6_len_source n k)
either_source P n k slice stated = search rules

-- An IPv6 base header b is at the start of s, its payload length is k and its next header n; x is what follows it in
-- the front.
pub record AtIpv6 (s b : List ℕ) (n h k : ℕ) (by : LenSource) (whole x : List ℕ) : Type 0 where
  pub base : IsIpv6Header b
  pub prefix : IsPrefix b s
  pub number : n ≡ ipv6_next_header b
  pub len : h ≡ length b
  pub payload : k ≡ payload_length b
  pub source : by ≡ ipv6_len_source k (length s)
  pub whole_is : whole ≡ front by k s
  pub after_base : x ≡ drop h whole

-- the front is a prefix of s that contains the whole base header
record Front (s : List ℕ) (source : LenSource) (k : ℕ) : Type 0 where
  len : ℕ
  known : front source k s ≡ take len s
  enough : 40 ≤ len

front_known : (s : List ℕ) (source : LenSource) (k : ℕ) → 40 ≤ length s → source ≡ ipv6_len_source k (length s) → Front s source k
front_known s source k enough is =
    rw is
    (either_source (λ x. Front s x k) k (length s) (record { len = length s; known = sym (take-length s); enough = enough }) (record { len = 40 + k; known = refl; enough = omega arith }))

pub ipv6_packet : (s b : List ℕ) (n h k : ℕ) (source : LenSource) (whole x : List ℕ) (fragmented : Bool) (c : List ExtHeader) (m : ℕ) (r : List ℕ) → AtIpv6 s b n h k source whole x → fragmented ≡ has_fragmenting c
    → IsChainAnswer n x c m r None → IsIpv6Packet s (record { base = b; headers = c; payload = r; number = m; fragmented = fragmented; source = source })
ipv6_packet s b n h k source whole x fragmented c m r at ef a =
    let source_is : source ≡ ipv6_len_source (payload_length b) (length s) = cc in
    let chain : IsChainAnswer (ipv6_next_header b) (drop (length b) (front source (payload_length b) s)) c m r None = search (rules, at, a) in
    let known : Front s source (payload_length b) = front_known s source (payload_length b) (omega (arith, at.base.len, prefix-length b s at.prefix)) source_is in
    search (rules, ipv6_joined b s _ known.len _ c m r None at.prefix known.known (omega (arith, at.base.len, known.enough)) chain, at)

pub ipv6_after_fault : (s b : List ℕ) (n h k : ℕ) (source : LenSource) (whole x : List ℕ) → AtIpv6 s b n h k source whole x
    → ipv6_chain_fault s ≡ option_map (exts_in_packet source h) (option_map (λ f. f.0) (chain_fault n x))
ipv6_after_fault s b n h k source whole x at = search rules

-- the base header and what follows it are no longer than s
pub after_base_length : (s b : List ℕ) (n h k : ℕ) (by : LenSource) (whole x : List ℕ) → AtIpv6 s b n h k by whole x → length x + h ≤ length s
after_base_length s b n h k by whole x at = grind (arith, common_steps)

-- if no fewer bytes are present than stated, the checks before the chain pass
pub strict_fault_of_chain : (s : List ℕ) → 40 + payload_length s ≤ length s → ipv6_fault_after s ≡ ipv6_chain_fault s
strict_fault_of_chain s enough = search rules

pub stated_of_base : (s b : List ℕ) (k : ℕ) → IsIpv6Header b → IsPrefix b s → k ≡ payload_length b → k ≡ payload_length s
stated_of_base s b k base prefix payload = search rules
