-- The error for bytes r at offset k: the first check that fails, from left to right. None if r starts with a header.
-- The source says that n bytes are present.
use Rattle.std.specs.Prelude.{ℕ, ◌+◌, ◌*◌, ◌<◌, ◌^◌, List, length, slice_index, Option, Some, None, ⊤, nat_lt, ◌==◌, if◌then◌else◌}
use Rattle.ip_base.specs.declared.err.len_error.LenError.{LenError}
use Rattle.ip_base.specs.declared.err.layer.Layer.TheVariants.{Ipv6ExtHeader, Ipv6FragHeader, IpAuthHeader}
use Rattle.ip_base.specs.declared.len_source.LenSource.{LenSource}
use Rattle.ip_base.specs.LenError.{too_short, moved}
use Rattle.ip_ext_headers.specs.declared.err.ip_auth.header_slice_error.HeaderSliceError.{HeaderSliceError}
use Rattle.ip_ext_headers.specs.declared.err.ip_auth.header_slice_error.HeaderSliceError.TheVariants.{Len, Content}
use Rattle.ip_base.specs.declared.err.ip_auth.header_error.HeaderError.TheVariants.{ZeroPayloadLen}

-- for hop-by-hop options, routing and destination options (RFC 8200, sections 4.3, 4.4, 4.6)
abbrev pub raw_fault : LenSource → ℕ → ℕ → List ℕ → Option LenError
raw_fault source n k r =
    if nat_lt (length r) 8 then Some (too_short source n k Ipv6ExtHeader 8)
    else if nat_lt (length r) (8 * (slice_index r 1 + 1)) then Some (too_short source n k Ipv6ExtHeader (8 * (slice_index r 1 + 1)))
    else None

-- for a fragment header (RFC 8200, section 4.5)
abbrev pub fragment_fault : LenSource → ℕ → ℕ → List ℕ → Option LenError
fragment_fault source n k r = if nat_lt (length r) 8 then Some (too_short source n k Ipv6FragHeader 8) else None

-- for an authentication header (RFC 4302, section 2)
abbrev pub auth_fault : LenSource → ℕ → ℕ → List ℕ → Option HeaderSliceError
auth_fault source n k r =
    if nat_lt (length r) 12 then Some (Len (too_short source n k IpAuthHeader 12))
    else if slice_index r 1 == 0 then Some (Content ZeroPayloadLen)
    else if nat_lt (length r) (4 * (slice_index r 1 + 2)) then Some (Len (too_short source n k IpAuthHeader (4 * (slice_index r 1 + 2))))
    else None

-- the error with its offset, if it has one, increased by k
abbrev pub auth_moved : ℕ → HeaderSliceError → HeaderSliceError
auth_moved k (Len e) = Len (moved e.len_source k e)
auth_moved k (Content e) = Content e

abbrev pub AuthOffsetFits : HeaderSliceError → ℕ → Type 0
AuthOffsetFits (Len e) k = e.layer_start_offset + k < 2 ^ 64
AuthOffsetFits (Content e) k = ⊤

-- The error with its offset counted from a packet's start: the header starts at offset k, and the source is that of the
-- packet's length.
abbrev pub auth_in_packet : LenSource → ℕ → HeaderSliceError → HeaderSliceError
auth_in_packet source k (Len e) = Len (moved source k e)
auth_in_packet source k (Content e) = Content e
