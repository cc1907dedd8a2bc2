-- A packet and its parts.
use Rattle.std.specs.Prelude.{◌≡◌, ℕ, ◌≤◌, Bool, List, ◌++◌, length, drop, None}
use Rattle.ip_base.specs.declared.len_source.LenSource.{LenSource}
use Rattle.ip_base.specs.Ipv4Header.{IsIpv4Header, total_len, protocol, is_ipv4_fragmenting}
use Rattle.ip_base.specs.Ipv6Header.{IsIpv6Header, payload_length, ipv6_next_header}
use Rattle.ip_spec.specs.Chain.{ExtHeader, bytes_of, has_fragmenting}
use Rattle.ip_ext_slices.specs.ChainAnswer.{IsChainAnswer}
use Rattle.ip_ext_chains.specs.Ipv4Parse.{IsIpv4Answer}
use Rattle.etherparse_ip.specs.LenSources.{front, ipv4_len_source, ipv6_len_source}

-- the base header, the extension headers and the payload; the payload's protocol number, whether it is a fragment,
-- and the source of its length
pub record Parts : Type 0 where
  pub base : List ℕ
  pub headers : List ExtHeader
  pub payload : List ℕ
  pub number : ℕ
  pub fragmented : Bool
  pub source : LenSource

-- Bytes s start with an IPv4 packet of these parts (RFC 791, section 3.1). Joined, the parts are the first total
-- length bytes of s, and the headers are the longest chain of at most one authentication header after the base
-- header. `stated` excludes a truncated packet, whose parts joined are all of s.
pub record IsIpv4Packet (s : List ℕ) (p : Parts) : Type 0 where
  pub base : IsIpv4Header p.base
  pub stated : total_len p.base ≤ length s
  pub joined : p.base ++ (bytes_of p.headers ++ p.payload) ≡ front p.source (total_len p.base) s
  pub chain : IsIpv4Answer (λ c. c) (protocol p.base) (drop (length p.base) (front p.source (total_len p.base) s)) p.headers p.number p.payload None
  pub fragmented : p.fragmented ≡ is_ipv4_fragmenting p.base
  pub source : p.source ≡ ipv4_len_source

-- Bytes s start with an IPv6 packet of these parts (RFC 8200, section 3). Joined, the parts are the front of s by the
-- length source, and the headers are the longest chain after the base header.
pub record IsIpv6Packet (s : List ℕ) (p : Parts) : Type 0 where
  pub base : IsIpv6Header p.base
  pub joined : p.base ++ (bytes_of p.headers ++ p.payload) ≡ front p.source (payload_length p.base) s
  pub chain : IsChainAnswer (ipv6_next_header p.base) (drop (length p.base) (front p.source (payload_length p.base) s)) p.headers p.number p.payload None
  pub fragmented : p.fragmented ≡ has_fragmenting p.headers
  pub source : p.source ≡ ipv6_len_source (payload_length p.base) (length s)
