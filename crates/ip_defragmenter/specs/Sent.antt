-- A packet that is sent in fragments, and the headers of its first fragment (RFC 791, section 3.2; RFC 8200, section 4.5).
use Rattle.std.specs.Prelude.{◌≡◌, ℕ, ◌+◌, ◌≤◌, ◌<◌, false, List, length, slice_index, slice_set, take}
use Rattle.ip_base.specs.Ipv4Header.{version, ihl, ipv4_header_len, total_len, is_ipv4_fragmenting}
use Rattle.ip_base.specs.BaseHeaderFields.{ipv4_checksum}
use Rattle.ip_base.specs.Ipv6Header.{payload_length}
use Rattle.ip_spec.specs.Numbers.{FRAGMENT}
use Rattle.ip_spec.specs.Encoding.{AreBytes}
use Rattle.ip_base.specs.Checksum.{with_word, checksum_of}

-- the base header of the IPv4 packet s
abbrev pub ipv4_base : List ℕ → List ℕ
ipv4_base s = take (ipv4_header_len s) s

-- The IPv4 packet s is no fragment, and states its length and the checksum of its base header.
pub record IsSentIpv4 (s : List ℕ) : Type 0 where
  pub bytes : AreBytes s
  pub version : version s ≡ 4
  pub least : 5 ≤ ihl s
  pub within : ipv4_header_len s ≤ length s
  pub stated : total_len s ≡ length s
  pub alone : is_ipv4_fragmenting s ≡ false
  pub checksum : ipv4_checksum s ≡ checksum_of (with_word (ipv4_base s) 10 0)

-- The base header of its first fragment: with the total length t, the more fragments flag and the checksum x.
abbrev pub ipv4_first : List ℕ → ℕ → ℕ → List ℕ
ipv4_first s t x = with_word (slice_set (with_word (ipv4_base s) 2 t) 6 (slice_index s 6 + 0x20)) 10 x

-- The IPv6 packet s states its length, and is fragmented after its first n bytes, in which the last next header field is
-- at the offset `link`.
pub record IsSentIpv6 (s : List ℕ) (n link : ℕ) : Type 0 where
  pub bytes : AreBytes s
  pub version : version s ≡ 6
  pub base : 40 ≤ n
  pub within : n ≤ length s
  pub number : 6 ≤ link
  pub field : link < n
  pub stated : 40 + payload_length s ≡ length s

-- The headers of its first fragment, up to the fragment header: with the payload length t, and the fragment header's number
-- in that field.
abbrev pub ipv6_first : List ℕ → ℕ → ℕ → ℕ → List ℕ
ipv6_first s n link t = slice_set (with_word (take n s) 4 t) link FRAGMENT
