-- Why a dissection ends where it does. Offsets count from the start of the packet.
use Rattle.std.specs.Prelude.{ℕ, Bool, true, false, ◌+◌, ◌-◌, ◌*◌, List, length, slice_index, nat_lt, Option, Some, None, ◌==◌, ◌&&◌, not, if◌then◌else◌}
use Rattle.std.specs.Option.{option_map, option_map_or}
use Rattle.ip_spec.specs.Chain.{leads_to, bytes_of, is_empty}
use Rattle.ip_spec.specs.Parse.{rest_after, fault_after}
use Rattle.ip_base.specs.LenError.{too_short}
use Rattle.ip_base.specs.Ipv4Header.{version, ihl, ipv4_header_len, total_len, protocol, ipv4_fragment_offset}
use Rattle.ip_base.specs.Ipv6Header.{ipv6_next_header}
use Rattle.ip_base.specs.declared.len_source.LenSource.{LenSource}
use Rattle.ip_base.specs.declared.len_source.LenSource.TheVariants.{Slice, Ipv4HeaderTotalLen, Ipv6HeaderPayloadLen}
use Rattle.ip_base.specs.declared.err.layer.Layer.{Layer}
use Rattle.ip_base.specs.declared.err.layer.Layer.TheVariants as layer
use Rattle.ip_base.specs.declared.err.len_error.LenError.{LenError}
use Rattle.ip_base.specs.declared.err.ip.header_error.HeaderError.TheVariants.{UnsupportedIpVersion, Ipv4HeaderLengthSmallerThanHeader}
use Rattle.ip_base.specs.declared.err.ip_auth.header_error.HeaderError.TheVariants.{ZeroPayloadLen}
use Rattle.ip_base.specs.declared.err.ipv6_exts.header_error.HeaderError.TheVariants.{IpAuth}
use Rattle.ip_base.specs.declared.err.ip.headers_error.HeadersError.TheVariants.{Ip, Ipv4Ext, Ipv6Ext}
use Rattle.ip_base.specs.declared.err.ip.slice_error.SliceError.TheVariants.{Len, IpHeaders}
use Rattle.ip_ext_headers.specs.declared.err.ip_auth.header_slice_error.HeaderSliceError.{HeaderSliceError as AuthSliceError}
use Rattle.ip_ext_headers.specs.declared.err.ip_auth.header_slice_error.HeaderSliceError.TheVariants as auth
use Rattle.ip_ext_headers.specs.HeaderFault.{auth_in_packet}
use Rattle.ip_ext_slices.specs.declared.err.ipv6_exts.header_slice_error.HeaderSliceError.TheVariants as exts
use Rattle.ip_ext_slices.specs.ChainFault.{Fault, slice_fault}
use Rattle.ip_ext_slices.specs.Ipv4Fault.{ipv4_faults}
use Rattle.ip_dissect.specs.LaterDemand.{has_later}
use Rattle.ip_dissect.specs.Extent.{ipv4_stated, ipv6_stated, after_base, ipv4_chain, ipv6_chain}
use Rattle.ip_dissect.specs.declared.end.End.{End}
use Rattle.ip_dissect.specs.declared.end.End.TheVariants as end

-- Why bytes s don't start with a whole base header. None if they do.
abbrev pub base_end : List ℕ → Option End
base_end s =
    if length s == 0 then Some (end.Truncated (too_short Slice 0 0 layer.IpHeader 1) None)
    else if version s == 4 then (
    if nat_lt (ihl s) 5 then Some (end.Fault (IpHeaders (Ip (Ipv4HeaderLengthSmallerThanHeader (ihl s)))) None)
    else if nat_lt (length s) (ipv4_header_len s) then Some (end.Truncated (too_short Slice (length s) 0 layer.Ipv4Header (ipv4_header_len s)) None)
    else None
    )
    else if version s == 6 then (
    if nat_lt (length s) 40 then Some (end.Truncated (too_short Slice (length s) 0 layer.Ipv6Header 40) None)
    else None
    )
    else Some (end.Fault (IpHeaders (Ip (UnsupportedIpVersion (version s)))) None)

-- A header needs more bytes than there are. If the stated length t leaves fewer than it needs, the header doesn't fit
-- the packet: a fault, by the length field. Otherwise the rest of it may exist: it is truncated.
abbrev pub len_end : Option ℕ → LenSource → LenError → Option Layer → End
len_end None field e header = end.Truncated e header
len_end (Some t) field e header =
    if nat_lt (t - e.layer_start_offset) e.required_len then end.Fault (Len (record e { len = t - e.layer_start_offset; len_source = field })) header
    else end.Truncated e header

-- How many bytes a header of this layer needs, of which r are here: those that its length byte states, if that is here (RFC
-- 8200, sections 4.3, 4.4 and 4.6; RFC 4302, section 2.2), and otherwise the least that such a header has. A fragment header
-- has 8 bytes (RFC 8200, section 4.5).
abbrev pub required_of : Layer → ℕ → List ℕ → ℕ
required_of layer.Ipv6FragHeader least r = least
required_of layer.IpAuthHeader least r = if nat_lt (length r) 2 then least else 4 * (slice_index r 1 + 2)
required_of l least r = if nat_lt (length r) 2 then least else 8 * (slice_index r 1 + 1)

abbrev pub needing : Layer → List ℕ → LenError → LenError
needing l r e = record e { required_len = required_of l e.required_len r }

-- The header, of which r are here, is an authentication header that states a length of 0.
abbrev pub states_zero : Layer → List ℕ → Bool
states_zero layer.IpAuthHeader r = not (nat_lt (length r) 2) && (slice_index r 1 == 0)
states_zero l r = false

-- the end at an error in an IPv4 extension header of which r are here, and in an IPv6 one
abbrev pub auth_end : Option ℕ → List ℕ → AuthSliceError → End
auth_end t r (auth.Len e) =
    if states_zero layer.IpAuthHeader r then end.Fault (IpHeaders (Ipv4Ext ZeroPayloadLen)) None
    else len_end t Ipv4HeaderTotalLen (needing layer.IpAuthHeader r e) None
auth_end t r (auth.Content e) = end.Fault (IpHeaders (Ipv4Ext e)) None

abbrev pub exts_end : Option ℕ → List ℕ → Fault → End
exts_end t r (exts.Len e, header) =
    if states_zero header r then end.Fault (IpHeaders (Ipv6Ext (IpAuth ZeroPayloadLen))) (Some header)
    else len_end t Ipv6HeaderPayloadLen (needing header r e) (Some header)
exts_end t r (exts.Content e, header) = end.Fault (IpHeaders (Ipv6Ext e)) (Some header)

-- it is an error
abbrev pub has_error : End → Bool
has_error end.Payload = false
has_error end.LaterFragment = false
has_error (end.Truncated e header) = true
has_error (end.Fault e header) = true

-- The total length of an IPv4 base header b is below its header length.
abbrev pub is_too_short : List ℕ → Bool
is_too_short b = not (total_len b == 0) && nat_lt (total_len b) (length b)

-- the end after an IPv4 base header b in bytes s
abbrev pub ipv4_end : List ℕ → List ℕ → End
ipv4_end b s =
    if is_too_short b then end.Fault (Len (too_short Ipv4HeaderTotalLen (total_len b) 0 layer.Ipv4Packet (length b))) None
    else if not (ipv4_fragment_offset b == 0) then end.LaterFragment
    else option_map_or (auth_end (ipv4_stated b) (after_base b (ipv4_stated b) s)) (option_map (auth_in_packet Slice (length b)) (fault_after (ipv4_faults Slice) (ipv4_chain b s) (protocol b) (after_base b (ipv4_stated b) s))) end.Payload

-- the bytes of the packet after the IPv6 chain after the base header b in bytes s
abbrev pub ipv6_rest : List ℕ → List ℕ → List ℕ
ipv6_rest b s = rest_after (ipv6_chain b s) (after_base b (ipv6_stated b) s)

-- the error of the IPv6 chain after the base header b in bytes s
abbrev pub ipv6_error : List ℕ → List ℕ → Option Fault
ipv6_error b s =
    slice_fault (40 + length (bytes_of (ipv6_chain b s))) (is_empty (ipv6_chain b s))
    (leads_to (ipv6_next_header b) (ipv6_chain b s)) (ipv6_rest b s)

-- the end after an IPv6 base header b in bytes s
abbrev pub ipv6_end : List ℕ → List ℕ → End
ipv6_end b s =
    if has_later (ipv6_chain b s) then end.LaterFragment
    else option_map_or (exts_end (ipv6_stated b) (ipv6_rest b s)) (ipv6_error b s) end.Payload
