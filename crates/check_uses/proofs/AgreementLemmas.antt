-- Where no later fragment's header is in the chain, a dissection and a parsed packet have the same parts.
use Rattle.ip_spec.proofs.Common.{rules, ◌≡◌, [], append-nil, ℕ, ◌+◌, ◌≤◌, List, ◌++◌, length, take, refl, sym, ap, arith, false, common_steps, length-append, length-take, Some, None, IsPrefix, ExtHeader, ◌==◌, if◌then◌else◌}
use Rattle.ip_spec.specs.Demand.{KeepsBeginning}
use Rattle.ip_spec.proofs.PrefixLemmas.{prefix-length}
use Rattle.ip_spec.proofs.ChainLemmas.{longest_at_end}
use Rattle.ip_spec.proofs.UnderLemmas.{longest_ends_under, kept_is_longest, one_longest_under}
use Rattle.ip_base.specs.Ipv6Header.{IsIpv6Header, payload_length, ipv6_next_header}
use Rattle.ip_base.specs.Ipv4Header.{IsIpv4Header, ipv4_header_len, total_len, protocol, ipv4_fragment_offset}
use Rattle.ip_base.proofs.BaseLemmas.{SaysIpv4, SaysIpv6, says_ipv4, says_ipv6}
use Rattle.ip_ext_slices.specs.Longest.{longest_chain}
use Rattle.ip_ext_slices.specs.Ipv4Longest.{longest_ipv4_chain}
use Rattle.ip_ext_slices.proofs.LongestLemmas.{longest_chain-is, longest_chain-longest}
use Rattle.etherparse_ip.specs.LenSources.{front, ipv6_len_source}
use Rattle.etherparse_ip.specs.Packet.{Parts, IsIpv4Packet, IsIpv6Packet}
use Rattle.etherparse_ip.specs.PacketFault.{ipv4_after, ipv6_after}
use Rattle.etherparse_ip.proofs.OnePacketLemmas.{ipv4_parts_are, ipv6_parts_are}
use Rattle.ip_dissect.specs.LaterDemand.{has_later, NothingAfterLater, nothing_after_later}
use Rattle.ip_dissect.specs.Later.{chain_to_later}
use Rattle.ip_dissect.specs.Extent.{packet_bytes, after_base, ipv4_stated, ipv6_stated, ipv4_chain_in, ipv6_chain}
use Rattle.check_uses.specs.Agreement.{Agree}
use Rattle.ip_dissect.proofs.DissectedLemmas.{BeginIpv4, header_begins4, BeginIpv6, header_begins6}
use Rattle.ip_dissect.proofs.LaterLemmas.{chain_to_later-longest, may_follow, met}

-- without a later fragment's header the chain is the longest
pub no_later : (n : ℕ) (x : List ℕ) → has_later (chain_to_later n x) ≡ false → chain_to_later n x ≡ longest_chain n x
no_later n x none =
    let c : List ExtHeader = chain_to_later n x in
    sym (longest_chain-is n x c (longest_at_end n x c (chain_to_later-longest n x).has.0 (λ h y. longest_ends_under NothingAfterLater nothing_after_later n x c (chain_to_later-longest n x) h y (may_follow c h none))))

-- and so it is without one in the longest
none_later : (n : ℕ) (x : List ℕ) → has_later (longest_chain n x) ≡ false → chain_to_later n x ≡ longest_chain n x
none_later n x none =
    let d : List ExtHeader = longest_chain n x in
    let kept : KeepsBeginning NothingAfterLater d d = record { rest = []; joined = sym (append-nil d); meets = met d none; breaks = tt } in
    one_longest_under NothingAfterLater nothing_after_later n x _ d (chain_to_later-longest n x)
    (kept_is_longest NothingAfterLater nothing_after_later n x d d (longest_chain-longest n x) kept)

-- the packet's bytes are the front of s by the length source
front_is : (b s : List ℕ) (k : ℕ) → length b ≡ 40 → 40 ≤ length s → packet_bytes b (if k == 0 then None else Some (40 + k)) s ≡ front (ipv6_len_source k (length s)) k s
front_is b s k forty enough = grind (arith, common_steps)

pub after_is6 : (b s : List ℕ) → IsIpv6Header b → IsPrefix b s → after_base b (ipv6_stated b) s ≡ ipv6_after s
after_is6 b s base prefix =
    let says : SaysIpv6 b s = says_ipv6 b s base prefix in
    let enough : 40 ≤ length s = omega (arith, prefix-length b s prefix, base.len) in
    cc (front_is b s (payload_length b) base.len enough)

parsed_begins6 : (s : List ℕ) (p : Parts) → IsIpv6Packet s p → BeginIpv6 s (take 40 s)
parsed_begins6 s p k = header_begins6 s (rw (ipv6_parts_are s p k) at k.base)

pub ipv6_agrees : (s : List ℕ) (p : Parts) → IsIpv6Packet s p → has_later p.headers ≡ false → Agree s p
ipv6_agrees s p k none =
    let b : List ℕ = take 40 s in
    let w : BeginIpv6 s b = parsed_begins6 s p k in
    let none : has_later (longest_chain (ipv6_next_header s) (ipv6_after s)) ≡ false = rw (ipv6_parts_are s p k) at none in
    let says : SaysIpv6 b s = says_ipv6 b s w.header w.prefix in
    let x : after_base b (ipv6_stated b) s ≡ ipv6_after s = after_is6 b s w.header w.prefix in
    let c : ipv6_chain b s ≡ longest_chain (ipv6_next_header s) (ipv6_after s) = cc (none_later (ipv6_next_header s) (ipv6_after s) none, says.number) in
    let own : p ≡ _ = ipv6_parts_are s p k in
    record { base = cc (w.is, own); headers = cc (w.is, own, c); payload = cc (w.is, own, x, c); number = cc (w.is, own, c, says.number) }

-- IPv4: a parsed packet's total length isn't below its header length
enough_of : (b y s : List ℕ) (t : ℕ) → b ++ y ≡ take t s → length b ≤ t
enough_of b y s t e = omega (arith, ap length e, length-append b y, length-take t s)

total_is : (b s : List ℕ) (t : ℕ) → 1 ≤ length b → length b ≤ t → packet_bytes b (if t == 0 then None else Some t) s ≡ take t s
total_is b s t some enough = grind (arith, common_steps)

pub after_is4 : (b s : List ℕ) → IsIpv4Header b → IsPrefix b s → length b ≤ total_len b → after_base b (ipv4_stated b) s ≡ ipv4_after s
after_is4 b s base prefix enough = search (rules, SaysIpv4, says_ipv4, total_is)

pub chain_of : (b x : List ℕ) → ipv4_fragment_offset b ≡ 0 → ipv4_chain_in b x ≡ longest_ipv4_chain (protocol b) x
chain_of b x e = rw e refl

parsed_begins4 : (s : List ℕ) (p : Parts) → IsIpv4Packet s p → BeginIpv4 s (take (ipv4_header_len s) s)
parsed_begins4 s p k = header_begins4 s (rw (ipv4_parts_are s p k) at k.base)

parsed_enough : (s : List ℕ) (p : Parts) → IsIpv4Packet s p → length (take (ipv4_header_len s) s) ≤ total_len (take (ipv4_header_len s) s)
parsed_enough s p k = search (rules, ipv4_parts_are, enough_of)

pub ipv4_agrees : (s : List ℕ) (p : Parts) → IsIpv4Packet s p → ipv4_fragment_offset p.base ≡ 0 → Agree s p
ipv4_agrees s p k none = search (rules, BeginIpv4, parsed_begins4, ipv4_parts_are, SaysIpv4, says_ipv4, after_is4, parsed_enough, chain_of)
