-- Fields of the base headers that no parse needs: of IPv4 (RFC 791, section 3.1), whose byte 1 is divided by RFC 2474 and
-- RFC 3168, and of IPv6 (RFC 8200, section 3). All are in network byte order.
use Rattle.std.specs.Prelude.{ℕ, ◌+◌, ◌*◌, ◌/◌, ◌%◌, ◌==◌, not, Bool, List, drop, slice_index, slice_range, bit_and}
use Rattle.std.specs.Int.{from_be_bytes, w16}

-- the differentiated services code point: the high 6 bits of byte 1
abbrev pub ipv4_dscp : List ℕ → ℕ
ipv4_dscp b = slice_index b 1 / 4

-- explicit congestion notification: the low 2 bits of byte 1
abbrev pub ipv4_ecn : List ℕ → ℕ
ipv4_ecn b = slice_index b 1 % 4

-- the number that all fragments of a packet share
abbrev pub ipv4_identification : List ℕ → ℕ
ipv4_identification b = from_be_bytes w16 (slice_range b 4 6)

-- the don't fragment flag
abbrev pub ipv4_dont_fragment : List ℕ → Bool
ipv4_dont_fragment b = not (bit_and (slice_index b 6) 0x40 == 0)

-- the time to live
abbrev pub ipv4_ttl : List ℕ → ℕ
ipv4_ttl b = slice_index b 8

-- the checksum of the header, as it is written
abbrev pub ipv4_checksum : List ℕ → ℕ
ipv4_checksum b = from_be_bytes w16 (slice_range b 10 12)

-- the options and their padding
abbrev pub ipv4_options : List ℕ → List ℕ
ipv4_options b = drop 20 b

-- the traffic class: the low half of byte 0 and the high half of byte 1
abbrev pub ipv6_traffic_class : List ℕ → ℕ
ipv6_traffic_class b = 16 * (slice_index b 0 % 16) + slice_index b 1 / 16

-- the flow label: the low half of byte 1, and bytes 2 and 3
abbrev pub ipv6_flow_label : List ℕ → ℕ
ipv6_flow_label b = 65536 * (slice_index b 1 % 16) + 256 * slice_index b 2 + slice_index b 3

-- the hop limit
abbrev pub ipv6_hop_limit : List ℕ → ℕ
ipv6_hop_limit b = slice_index b 7
