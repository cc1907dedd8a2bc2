-- Headers of radio networks: what bytes b begin with.
use Rattle.std.specs.Prelude.{ℕ, ◌+◌, ◌*◌, ◌/◌, ◌%◌, List, Option, Some, None, Bool, not, ◌==◌, ◌&&◌, nat_lt, bit_and, slice_index, slice_range, if◌then◌else◌}
use Rattle.std.specs.Int.{from_le_bytes, w16, w32}
use Rattle.ip_frames.specs.Reading.{has_bits, header, not_ip, of_bytes}
use Rattle.ip_frames.specs.declared.protocol_number.ProtocolNumber.{ProtocolNumber}
use Rattle.ip_frames.specs.declared.protocol_number.ProtocolNumber.TheVariants as number
use Rattle.ip_frames.specs.declared.frame_contents.FrameEnd.TheVariants.{NotIp}
use Rattle.ip_frames.specs.declared.header.HeaderKind.{HeaderKind}
use Rattle.ip_frames.specs.declared.header.HeaderKind.TheVariants.{Ieee80211, Radiotap, Ppi, Ethernet, Llc}
use Rattle.ip_frames.specs.declared.header.Announced.{Announced}
use Rattle.ip_frames.specs.declared.header.Announced.TheVariants.{Header, Other}
use Rattle.ip_frames.specs.declared.header.HeaderReading.{HeaderReading}
use Rattle.ip_frames.specs.declared.header.HeaderReading.TheVariants.{End}

-- IEEE 802.11, section 9.2.4.1: bits 2 and 3 of byte 0 are the type, and the four above them the subtype.
abbrev pub frame_type : List ℕ → Option ProtocolNumber
frame_type b = Some (number.Ieee80211 (16 * (slice_index b 0 / 4 % 4) + slice_index b 0 / 16))

-- A data frame (type 2) of version 0, without the bit of subtypes that have no data, and not protected (bit 6 of byte 1).
abbrev pub is_plain_data : List ℕ → Bool
is_plain_data b = (bit_and (slice_index b 0) 0x4f == 8) && not (has_bits b 1 0x40)

-- Section 9.3.2.1: three addresses, and a fourth one between access points (bits 0 and 1 of byte 1).
abbrev pub addresses_end : List ℕ → ℕ
addresses_end b = if bit_and (slice_index b 1) 3 == 3 then 30 else 24

-- Section 9.2.4.5: the QoS control of the subtypes with bit 7 of byte 0, and the HT control that bit 7 of byte 1 then announces.
abbrev pub data_header_len : List ℕ → ℕ
data_header_len b =
    if has_bits b 0 0x80 then (if has_bits b 1 0x80 then addresses_end b + 6 else addresses_end b + 2) else addresses_end b

-- The frame is no first fragment (section 9.2.4.4), or has several (bit 7 of the QoS control).
abbrev pub is_part : List ℕ → Bool
is_part b = has_bits b 22 0x0f

abbrev pub has_several : List ℕ → Bool
has_several b = has_bits b 0 0x80 && has_bits b (addresses_end b) 0x80

abbrev pub ieee80211 : List ℕ → HeaderReading
ieee80211 b = of_bytes 2 b (
    if not (is_plain_data b) then End NotIp (frame_type b)
    else of_bytes (data_header_len b) b (
    if is_part b then End NotIp (frame_type b)
    else if has_several b then End NotIp (frame_type b)
    else header Ieee80211 (data_header_len b) (frame_type b) (Header Llc)))

-- www.radiotap.org: version 0, and the length in bytes 2 and 3, the least significant one first.
abbrev pub radio_len : List ℕ → ℕ
radio_len b = from_le_bytes w16 (slice_range b 2 4)

abbrev pub sized_header : HeaderKind → Announced → List ℕ → HeaderReading
sized_header k what b =
    if not (slice_index b 0 == 0) then not_ip
    else if nat_lt (radio_len b) 8 then not_ip
    else of_bytes (radio_len b) b (header k (radio_len b) None what)

abbrev pub radiotap : List ℕ → HeaderReading
radiotap b = of_bytes 8 b (sized_header Radiotap (Header Ieee80211) b)

-- LINKTYPE_PPI: version 0, the length likewise, and the link type in bytes 4 to 7: 105 is 802.11, and 1 is Ethernet.
abbrev pub after_link_type : ℕ → Announced
after_link_type n = if n == 105 then Header Ieee80211 else if n == 1 then Header Ethernet else Other

abbrev pub ppi : List ℕ → HeaderReading
ppi b = of_bytes 8 b (sized_header Ppi (after_link_type (from_le_bytes w32 (slice_range b 4 8))) b)
