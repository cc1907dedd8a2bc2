-- Where a packet ends: the length that its base header states, and the bytes that are present.
use Rattle.std.specs.Prelude.{ℕ, ◌+◌, ◌-◌, List, [], length, take, drop, max, Option, Some, None, ◌==◌, if◌then◌else◌}
use Rattle.ip_base.specs.Ipv4Header.{total_len, protocol, ipv4_fragment_offset}
use Rattle.ip_base.specs.Ipv6Header.{payload_length, ipv6_next_header}
use Rattle.ip_spec.specs.Chain.{ExtHeader}
use Rattle.ip_ext_slices.specs.Ipv4Longest.{longest_ipv4_chain}
use Rattle.ip_dissect.specs.Later.{chain_to_later}

-- The length in bytes that a base header b states, base header included: none if the field is 0, as in a jumbogram
-- (RFC 2675) or a packet captured before segmentation offload.
abbrev pub ipv4_stated : List ℕ → Option ℕ
ipv4_stated b = if total_len b == 0 then None else Some (total_len b)

abbrev pub ipv6_stated : List ℕ → Option ℕ
ipv6_stated b = if payload_length b == 0 then None else Some (40 + payload_length b)

-- The packet's bytes in s, by its base header b and the stated length: those within it, as far as they are present.
-- The base header always belongs to the packet.
abbrev pub packet_bytes : List ℕ → Option ℕ → List ℕ → List ℕ
packet_bytes b None s = s
packet_bytes b (Some t) s = take (max t (length b)) s

-- those after the base header
abbrev pub after_base : List ℕ → Option ℕ → List ℕ → List ℕ
after_base b t s = drop (length b) (packet_bytes b t s)

-- how many stated bytes are not among the n that are present
abbrev pub missing_of : Option ℕ → ℕ → ℕ
missing_of None n = 0
missing_of (Some t) n = t - n

-- the IPv4 extension headers in bytes r after the base header b: none if the packet is a later fragment (RFC 791,
-- section 3.2), otherwise the longest chain
abbrev pub ipv4_chain_in : List ℕ → List ℕ → List ExtHeader
ipv4_chain_in b r = if ipv4_fragment_offset b == 0 then longest_ipv4_chain (protocol b) r else []

-- those in bytes s that start with the base header b
abbrev pub ipv4_chain : List ℕ → List ℕ → List ExtHeader
ipv4_chain b s = ipv4_chain_in b (after_base b (ipv4_stated b) s)

-- the IPv6 extension headers: the longest chain in which nothing follows the fragment header of a later fragment
abbrev pub ipv6_chain : List ℕ → List ℕ → List ExtHeader
ipv6_chain b s = chain_to_later (ipv6_next_header b) (after_base b (ipv6_stated b) s)
