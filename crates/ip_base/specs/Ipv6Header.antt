-- The IPv6 base header (RFC 8200, section 3): its fields, in network byte order.
use Rattle.std.specs.Prelude.{◌≡◌, ℕ, ◌==◌, not, List, length, slice_index, slice_range, nat_lt, Option, Some, None, if◌then◌else◌}
use Rattle.std.specs.Int.{from_be_bytes, w16}
use Rattle.ip_base.specs.LenError.{too_short}
use Rattle.ip_base.specs.Ipv4Header.{version}
use Rattle.ip_base.specs.declared.len_source.LenSource.TheVariants.{Slice}
use Rattle.ip_base.specs.declared.err.layer.Layer.TheVariants as layer
use Rattle.ip_base.specs.declared.err.ipv6.header_error.HeaderError.TheVariants.{UnexpectedVersion}
use Rattle.ip_base.specs.declared.err.ipv6.header_slice_error.HeaderSliceError.{HeaderSliceError}
use Rattle.ip_base.specs.declared.err.ipv6.header_slice_error.HeaderSliceError.TheVariants.{Len, Content}

-- the number of bytes that follow the header in the packet
abbrev pub payload_length : List ℕ → ℕ
payload_length b = from_be_bytes w16 (slice_range b 4 6)

-- the next header field
abbrev pub ipv6_next_header : List ℕ → ℕ
ipv6_next_header b = slice_index b 6

abbrev pub ipv6_source_octets : List ℕ → List ℕ
ipv6_source_octets b = slice_range b 8 24

abbrev pub ipv6_destination_octets : List ℕ → List ℕ
ipv6_destination_octets b = slice_range b 24 40

-- bytes b are exactly one base header
pub record IsIpv6Header (b : List ℕ) : Type 0 where
  pub version : version b ≡ 6
  pub len : length b ≡ 40

-- The error for bytes s that don't start with a base header: the first check that fails. None if they do.
abbrev pub ipv6_header_fault : List ℕ → Option HeaderSliceError
ipv6_header_fault s =
    if nat_lt (length s) 40 then Some (Len (too_short Slice (length s) 0 layer.Ipv6Header 40))
    else if not (version s == 6) then Some (Content (UnexpectedVersion (version s)))
    else None
