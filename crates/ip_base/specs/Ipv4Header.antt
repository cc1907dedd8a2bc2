-- The IPv4 base header with its options (RFC 791, section 3.1): its fields, in network byte order.
use Rattle.std.specs.Prelude.{◌≡◌, ℕ, ◌+◌, ◌*◌, ◌/◌, ◌%◌, ◌≤◌, ◌==◌, not, Bool, List, length, slice_index, slice_range, bit_and, nat_lt, Option, Some, None, if◌then◌else◌}
use Rattle.std.specs.Int.{from_be_bytes, w16}
use Rattle.ip_base.specs.Fragment.{is_fragment}
use Rattle.ip_base.specs.LenError.{too_short}
use Rattle.ip_base.specs.declared.len_source.LenSource.TheVariants.{Slice}
use Rattle.ip_base.specs.declared.err.layer.Layer.TheVariants as layer
use Rattle.ip_base.specs.declared.err.ipv4.header_error.HeaderError.TheVariants.{UnexpectedVersion, HeaderLengthSmallerThanHeader}
use Rattle.ip_base.specs.declared.err.ipv4.header_slice_error.HeaderSliceError.{HeaderSliceError}
use Rattle.ip_base.specs.declared.err.ipv4.header_slice_error.HeaderSliceError.TheVariants.{Len, Content}

-- the high half of byte 0; IPv6 headers have the version there too
abbrev pub version : List ℕ → ℕ
version b = slice_index b 0 / 16

-- the internet header length (IHL), in units of 4 bytes: the low half of byte 0
abbrev pub ihl : List ℕ → ℕ
ihl b = slice_index b 0 % 16

-- the internet header length in bytes
abbrev pub ipv4_header_len : List ℕ → ℕ
ipv4_header_len b = 4 * ihl b

-- the packet's length in bytes, header included
abbrev pub total_len : List ℕ → ℕ
total_len b = from_be_bytes w16 (slice_range b 2 4)

-- the more fragments flag
abbrev pub ipv4_more_fragments : List ℕ → Bool
ipv4_more_fragments b = not (bit_and (slice_index b 6) 0x20 == 0)

-- the fragment offset, in units of 8 bytes
abbrev pub ipv4_fragment_offset : List ℕ → ℕ
ipv4_fragment_offset b = 256 * bit_and (slice_index b 6) 0x1f + slice_index b 7

-- the packet is a fragment: more fragments follow, or the offset is not 0
abbrev pub is_ipv4_fragmenting : List ℕ → Bool
is_ipv4_fragmenting b = is_fragment (ipv4_more_fragments b) (ipv4_fragment_offset b)

-- the protocol number of what follows the header
abbrev pub protocol : List ℕ → ℕ
protocol b = slice_index b 9

abbrev pub ipv4_source_octets : List ℕ → List ℕ
ipv4_source_octets b = slice_range b 12 16

abbrev pub ipv4_destination_octets : List ℕ → List ℕ
ipv4_destination_octets b = slice_range b 16 20

-- bytes b are exactly one base header with its options
pub record IsIpv4Header (b : List ℕ) : Type 0 where
  pub version : version b ≡ 4
  pub least : 5 ≤ ihl b
  pub len : length b ≡ ipv4_header_len b

-- The error for bytes s that don't start with a base header: the first check that fails. None if they do.
abbrev pub ipv4_header_fault : List ℕ → Option HeaderSliceError
ipv4_header_fault s =
    if nat_lt (length s) 20 then Some (Len (too_short Slice (length s) 0 layer.Ipv4Header 20))
    else if not (version s == 4) then Some (Content (UnexpectedVersion (version s)))
    else if nat_lt (ihl s) 5 then Some (Content (HeaderLengthSmallerThanHeader (ihl s)))
    else if nat_lt (length s) (ipv4_header_len s) then Some (Len (too_short Slice (length s) 0 layer.Ipv4Header (ipv4_header_len s)))
    else None
