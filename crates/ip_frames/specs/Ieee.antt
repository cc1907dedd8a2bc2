-- Headers of IEEE 802, and those that EtherTypes announce: what bytes b begin with.
use Rattle.std.specs.Prelude.{ℕ, ◌+◌, ◌*◌, List, length, Option, Some, None, Bool, not, ◌==◌, ◌&&◌, ◌||◌, nat_lt, nat_le, bit_and, slice_index, if◌then◌else◌}
use Rattle.ip_frames.specs.Reading.{word_at, has_bits, header, typed, not_ip, of_bytes}
use Rattle.ip_frames.specs.Numbers.{after_ethertype}
use Rattle.ip_frames.specs.declared.protocol_number.ProtocolNumber.{ProtocolNumber}
use Rattle.ip_frames.specs.declared.protocol_number.ProtocolNumber.TheVariants as number
use Rattle.ip_frames.specs.declared.frame_contents.FrameEnd.TheVariants.{NotIp, Truncated}
use Rattle.ip_frames.specs.declared.header.HeaderKind.TheVariants.{Ethernet, VlanTag, Llc, Snap, TokenRing, Fddi, Ipoib, MacSec, Nsh, Mpls, Pppoe, Ppp}
use Rattle.ip_frames.specs.declared.header.Announced.{Announced}
use Rattle.ip_frames.specs.declared.header.Announced.TheVariants.{Header, IpByVersion, Other}
use Rattle.ip_frames.specs.declared.header.HeaderReading.{HeaderReading}
use Rattle.ip_frames.specs.declared.header.HeaderReading.TheVariants.{Whole, End}

-- A number up to 1500 is the length of an LLC frame. A larger one is an EtherType (IEEE 802.3, section 3.2.6).
abbrev pub type_in : ℕ → Option ProtocolNumber
type_in n = if nat_le n 1500 then None else Some (number.EtherType n)

abbrev pub after_type_or_length : ℕ → Announced
after_type_or_length n = if nat_le n 1500 then Header Llc else after_ethertype n

-- IEEE 802.3, section 3.1: two addresses, and the type or length.
abbrev pub ethernet : List ℕ → HeaderReading
ethernet b = of_bytes 14 b (header Ethernet 14 (type_in (word_at b 12)) (after_type_or_length (word_at b 12)))

-- IEEE 802.1Q, section 9.6, after the tag's EtherType: the identifier is the last 12 bits of two bytes, and the type or
-- length of the frame follows.
abbrev pub vlan_tag : List ℕ → HeaderReading
vlan_tag b = of_bytes 4 b (Whole (record {
  kind = VlanTag;
  len = 4;
  number = type_in (word_at b 2);
  vlan = Some (bit_and (word_at b 0) 0xfff);
  announced = after_type_or_length (word_at b 2);
}))

-- IEEE 802.2, section 3.2: two service access points, of which the first is that of the destination, and a control byte.
abbrev pub access_point : List ℕ → Option ProtocolNumber
access_point b = if nat_le 1 (length b) then Some (number.Llc (slice_index b 0)) else None

-- RFC 1042: SNAP follows the bytes 0xaa, 0xaa and 3.
abbrev pub llc : List ℕ → HeaderReading
llc b =
    if nat_le 3 (length b) then (
    if (slice_index b 0 == 0xaa) && (slice_index b 1 == 0xaa) && (slice_index b 2 == 3)
    then header Llc 3 (access_point b) (Header Snap)
    else End NotIp (access_point b))
    else End (Truncated 3) (access_point b)

-- RFC 1042: after an organization code of 0, an EtherType.
abbrev pub snap : List ℕ → HeaderReading
snap b = of_bytes 5 b (
    if (slice_index b 0 == 0) && (slice_index b 1 == 0) && (slice_index b 2 == 0) then typed Snap 5 (word_at b 3) else not_ip)

-- IEEE 802.5, section 3.2: a frame with LLC has 01 in the two highest bits of byte 1. The highest bit of the source address,
-- which begins at byte 8, says that a route follows, whose length is in the last 5 bits of its first byte.
abbrev pub is_token_ring_llc : List ℕ → Bool
is_token_ring_llc b = bit_and (slice_index b 1) 0xc0 == 0x40

abbrev pub routed_len : List ℕ → ℕ
routed_len b = 14 + bit_and (slice_index b 14) 0x1f

abbrev pub token_ring : List ℕ → HeaderReading
token_ring b = of_bytes 14 b (
    if not (is_token_ring_llc b) then header TokenRing 14 None Other
    else if has_bits b 8 0x80 then of_bytes 15 b (of_bytes (routed_len b) b (header TokenRing (routed_len b) None (Header Llc)))
    else header TokenRing 14 None (Header Llc))

-- ISO 9314-2: a frame with LLC has 0101 in the highest bits of byte 0.
abbrev pub fddi : List ℕ → HeaderReading
fddi b = of_bytes 13 b (
    header Fddi 13 None (if bit_and (slice_index b 0) 0xf0 == 0x50 then Header Llc else Other))

-- IEEE 802.1AE, section 9.3, after its EtherType: a tag of 6 bytes, or of 14 with the identifier of its channel, and then the
-- type or length of the frame. The highest bit of byte 0 is the version, 0. Bits 3 and 2 say that what follows is encrypted or
-- changed.
abbrev pub after_security_tag : ℕ → List ℕ → HeaderReading
after_security_tag n b =
    of_bytes (n + 2) b (header MacSec (n + 2) (type_in (word_at b n)) (after_type_or_length (word_at b n)))

abbrev pub macsec : List ℕ → HeaderReading
macsec b = of_bytes 6 b (
    if has_bits b 0 0x8c then not_ip
    else if has_bits b 0 0x20 then after_security_tag 14 b
    else after_security_tag 6 b)

-- RFC 8300, section 2: the version, 0, and the flag of packets for operation are the first three bits. The last 6 bits of byte 1
-- are the length in units of 4 bytes, at least 2, and byte 3 says what follows: 1 IPv4, 2 IPv6, 3 Ethernet, 4 another such header, 5
-- MPLS. It is no EtherType.
abbrev pub nsh_len : List ℕ → ℕ
nsh_len b = 4 * bit_and (slice_index b 1) 0x3f

abbrev pub after_nsh : ℕ → Announced
after_nsh n =
    if (n == 1) || (n == 2) then IpByVersion
    else if n == 3 then Header Ethernet
    else if n == 4 then Header Nsh
    else if n == 5 then Header Mpls
    else Other

abbrev pub nsh : List ℕ → HeaderReading
nsh b = of_bytes 8 b (
    if has_bits b 0 0xe0 then not_ip
    else if nat_lt (nsh_len b) 8 then not_ip
    else of_bytes (nsh_len b) b (header Nsh (nsh_len b) None (after_nsh (slice_index b 3))))

-- RFC 4391, section 6: an EtherType and two bytes, after a global routing header of 40 bytes.
abbrev pub ipoib : List ℕ → HeaderReading
ipoib b = of_bytes 44 b (typed Ipoib 44 (word_at b 40))

-- RFC 3032, section 2.1: the last entry of the stack has the lowest bit of byte 2. No number says what follows it.
abbrev pub mpls : List ℕ → HeaderReading
mpls b = of_bytes 4 b (header Mpls 4 None (if has_bits b 2 1 then IpByVersion else Header Mpls))

-- RFC 2516, section 4: version 1 and type 1, and code 0 for session data.
abbrev pub pppoe : List ℕ → HeaderReading
pppoe b = of_bytes 6 b (
    if (slice_index b 0 == 0x11) && (slice_index b 1 == 0) then header Pppoe 6 None (Header Ppp) else not_ip)
