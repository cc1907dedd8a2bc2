-- Headers that a capturing system writes, which www.tcpdump.org/linktypes.html describes: what bytes b begin with.
use Rattle.std.specs.Prelude.{ℕ, ◌+◌, ◌*◌, ◌/◌, List, Some, None, ◌==◌, nat_lt, slice_index, slice_range, min, if◌then◌else◌}
use Rattle.std.specs.Int.{from_be_bytes, from_le_bytes, w16, w32}
use Rattle.ip_frames.specs.Reading.{word_at, header, typed, not_ip, of_bytes}
use Rattle.ip_frames.specs.Numbers.{after_family, after_solaris_family, after_nflog_family}
use Rattle.ip_frames.specs.declared.protocol_number.ProtocolNumber.TheVariants.{Family}
use Rattle.ip_frames.specs.declared.header.HeaderKind.TheVariants.{Cooked, CookedV2, Loopback, Ipnet, Nflog, NflogAttribute, Slip}
use Rattle.ip_frames.specs.declared.header.Announced.TheVariants.{Header, Ip, Other}
use Rattle.ip_frames.specs.declared.header.HeaderReading.{HeaderReading}

-- LINKTYPE_LINUX_SLL: the protocol type is an EtherType.
abbrev pub cooked : List ℕ → HeaderReading
cooked b = of_bytes 16 b (typed Cooked 16 (word_at b 14))

-- LINKTYPE_LINUX_SLL2
abbrev pub cooked_v2 : List ℕ → HeaderReading
cooked_v2 b = of_bytes 20 b (typed CookedV2 20 (word_at b 0))

-- LINKTYPE_NULL: an address family in the byte order of the capturing machine, which isn't known. In the other order it
-- would be larger.
abbrev pub family_of : List ℕ → ℕ
family_of b = min (from_be_bytes w32 (slice_range b 0 4)) (from_le_bytes w32 (slice_range b 0 4))

abbrev pub loopback : List ℕ → HeaderReading
loopback b = of_bytes 4 b (header Loopback 4 (Some (Family (family_of b))) (after_family (family_of b)))

-- LINKTYPE_IPNET: byte 1 is an address family of Solaris.
abbrev pub ipnet : List ℕ → HeaderReading
ipnet b = of_bytes 24 b (header Ipnet 24 (Some (Family (slice_index b 1))) (after_solaris_family (slice_index b 1)))

-- LINKTYPE_NFLOG: an address family of Linux and the version, which is 0.
abbrev pub nflog : List ℕ → HeaderReading
nflog b = of_bytes 4 b (
    if slice_index b 1 == 0 then header Nflog 4 (Some (Family (slice_index b 0))) (after_nflog_family (slice_index b 0))
    else header Nflog 4 None Other)

-- An attribute: its length and type, with the least significant byte first, a value, and padding to a multiple of 4 bytes.
-- That of type 9 has the packet as its value.
abbrev pub attribute_len : List ℕ → ℕ
attribute_len b = from_le_bytes w16 (slice_range b 0 2)

abbrev pub attribute_type : List ℕ → ℕ
attribute_type b = from_le_bytes w16 (slice_range b 2 4)

abbrev pub padded_len : List ℕ → ℕ
padded_len b = 4 * ((attribute_len b + 3) / 4)

abbrev pub nflog_attribute : List ℕ → HeaderReading
nflog_attribute b = of_bytes 4 b (
    if nat_lt (attribute_len b) 4 then not_ip
    else if attribute_type b == 9 then header NflogAttribute 4 None Ip
    else of_bytes (padded_len b) b (header NflogAttribute (padded_len b) None (Header NflogAttribute)))

-- LINKTYPE_SLIP: libpcap's header, and an IP packet.
abbrev pub slip : List ℕ → HeaderReading
slip b = of_bytes 16 b (header Slip 16 None Ip)
