-- The error at the end of an IPv6 chain, and the layer that it is in (RFC 8200, section 4).
use Rattle.std.specs.Prelude.{ℕ, ◌+◌, ◌<◌, ◌^◌, List, length, Option, Some, None, ⊤, Bool, ◌==◌, Result, Ok, Err, if◌then◌else◌}
use Rattle.std.specs.Option.{option_map}
use Rattle.ip_base.specs.LenError.{too_short, moved}
use Rattle.ip_base.specs.declared.err.layer.Layer.{Layer}
use Rattle.ip_base.specs.declared.err.layer.Layer.TheVariants.{Ipv6HopByHopHeader, Ipv6DestOptionsHeader, Ipv6RouteHeader, Ipv6FragHeader, IpAuthHeader}
use Rattle.ip_base.specs.declared.len_source.LenSource.{LenSource}
use Rattle.ip_base.specs.declared.len_source.LenSource.TheVariants.{Slice}
use Rattle.ip_ext_headers.specs.declared.err.ip_auth.header_slice_error.HeaderSliceError.{HeaderSliceError as AuthSliceError}
use Rattle.ip_ext_headers.specs.declared.err.ip_auth.header_slice_error.HeaderSliceError.TheVariants as auth
use Rattle.ip_ext_headers.specs.HeaderFault.{raw_fault, fragment_fault, auth_fault}
use Rattle.ip_spec.specs.Numbers.{HOP_BY_HOP, ROUTING, FRAGMENT, AUTHENTICATION, DESTINATION_OPTIONS}
use Rattle.ip_spec.specs.Chain.{ExtHeader, is_empty, bytes_of}
use Rattle.ip_spec.specs.Parse.{fault_after}
use Rattle.ip_ext_slices.specs.Longest.{longest_chain}
use Rattle.ip_base.specs.declared.err.ipv6_exts.header_error.HeaderError.{HeaderError}
use Rattle.ip_base.specs.declared.err.ipv6_exts.header_error.HeaderError.TheVariants.{HopByHopNotAtStart, IpAuth}
use Rattle.ip_ext_slices.specs.declared.err.ipv6_exts.header_slice_error.HeaderSliceError.{HeaderSliceError}
use Rattle.ip_ext_slices.specs.declared.err.ipv6_exts.header_slice_error.HeaderSliceError.TheVariants.{Len, Content}

abbrev pub Fault : Type 0
Fault = HeaderSliceError × Layer

-- too few bytes for an authentication header, or a bad length field in it
abbrev pub auth_at : AuthSliceError → Fault
auth_at (auth.Len e) = (Len e, IpAuthHeader)
auth_at (auth.Content e) = (Content (IpAuth e), IpAuthHeader)

-- The error at number m, with r left at offset k; the source says that n bytes are left. `first` says that no header
-- precedes. None if a header follows, and none if m is not an extension header's number.
abbrev pub fault_at : LenSource → ℕ → ℕ → Bool → ℕ → List ℕ → Option Fault
fault_at source n k first m r =
    if m == HOP_BY_HOP then (if first then option_map (λ e. (Len e, Ipv6HopByHopHeader)) (raw_fault source n k r) else Some (Content HopByHopNotAtStart, Ipv6HopByHopHeader))
    else if m == ROUTING then option_map (λ e. (Len e, Ipv6RouteHeader)) (raw_fault source n k r)
    else if m == DESTINATION_OPTIONS then option_map (λ e. (Len e, Ipv6DestOptionsHeader)) (raw_fault source n k r)
    else if m == FRAGMENT then option_map (λ e. (Len e, Ipv6FragHeader)) (fragment_fault source n k r)
    else if m == AUTHENTICATION then option_map auth_at (auth_fault source n k r)
    else None

-- the error if the length of r is the source
abbrev pub slice_fault : ℕ → Bool → ℕ → List ℕ → Option Fault
slice_fault k first m r = fault_at Slice (length r) k first m r

-- The error after the chain c, at number m with r left; the source says how many bytes are left.
abbrev pub chain_faults : LenSource → List ExtHeader → ℕ → List ℕ → Option Fault
chain_faults source c m r = fault_at source (length r) (length (bytes_of c)) (is_empty c) m r

-- the error at the end of the longest chain from n at the start of s
abbrev pub chain_fault : ℕ → List ℕ → Option Fault
chain_fault n s = fault_after (chain_faults Slice) (longest_chain n s) n s

-- the error at offset k with n bytes left, by its cause: a layer needs more bytes, or a header is malformed
abbrev pub error_by_cause : ℕ → ℕ → Result (ℕ × Layer) HeaderError → HeaderSliceError
error_by_cause k n (Ok (required, layer)) = Len (too_short Slice n k layer required)
error_by_cause k n (Err e) = Content e

-- the error with its offset, if it has one, increased by k
abbrev pub exts_moved : ℕ → HeaderSliceError → HeaderSliceError
exts_moved k (Len e) = Len (moved e.len_source k e)
exts_moved k (Content e) = Content e

abbrev pub ExtsOffsetFits : HeaderSliceError → ℕ → Type 0
ExtsOffsetFits (Len e) k = e.layer_start_offset + k < 2 ^ 64
ExtsOffsetFits (Content e) k = ⊤

-- The error with its offset counted from a packet's start: the extension headers start at offset k, and the source is
-- that of the packet's length.
abbrev pub exts_in_packet : LenSource → ℕ → HeaderSliceError → HeaderSliceError
exts_in_packet source k (Len e) = Len (moved source k e)
exts_in_packet source k (Content e) = Content e
