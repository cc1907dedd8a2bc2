-- The error for bytes s that don't start with a packet: the first check that fails, from left to right. None if they
-- do.
use Rattle.std.specs.Prelude.{ℕ, ◌+◌, ◌==◌, nat_lt, List, length, drop, Option, Some, if◌then◌else◌}
use Rattle.std.specs.Option.{option_map, option_or}
use Rattle.ip_base.specs.LenError.{too_short}
use Rattle.ip_base.specs.Ipv4Header.{version, ihl, ipv4_header_len, total_len, protocol, ipv4_header_fault}
use Rattle.ip_base.specs.Ipv6Header.{payload_length, ipv6_next_header, ipv6_header_fault}
use Rattle.ip_base.specs.declared.len_source.LenSource.TheVariants.{Slice, Ipv4HeaderTotalLen}
use Rattle.ip_base.specs.declared.err.layer.Layer.TheVariants as layer
use Rattle.ip_base.specs.declared.err.ipv4.header_slice_error.HeaderSliceError.{HeaderSliceError as Ipv4HeaderSliceError}
use Rattle.ip_base.specs.declared.err.ipv4.header_slice_error.HeaderSliceError.TheVariants as ipv4_header
use Rattle.ip_base.specs.declared.err.ipv6.header_slice_error.HeaderSliceError.{HeaderSliceError as Ipv6HeaderSliceError}
use Rattle.ip_base.specs.declared.err.ipv6.header_slice_error.HeaderSliceError.TheVariants as ipv6_header
use Rattle.ip_base.specs.declared.err.ip.header_error.HeaderError.TheVariants.{UnsupportedIpVersion, Ipv4HeaderLengthSmallerThanHeader}
use Rattle.ip_base.specs.declared.err.ip.headers_error.HeadersError.TheVariants.{Ip, Ipv4Ext, Ipv6Ext}
use Rattle.ip_base.specs.declared.err.ip.slice_error.SliceError.{SliceError}
use Rattle.ip_base.specs.declared.err.ip.slice_error.SliceError.TheVariants.{Len, IpHeaders}
use Rattle.ip_ext_headers.specs.declared.err.ip_auth.header_slice_error.HeaderSliceError.{HeaderSliceError as AuthSliceError}
use Rattle.ip_ext_headers.specs.declared.err.ip_auth.header_slice_error.HeaderSliceError.TheVariants as auth
use Rattle.ip_ext_headers.specs.HeaderFault.{auth_in_packet}
use Rattle.ip_ext_slices.specs.declared.err.ipv6_exts.header_slice_error.HeaderSliceError.{HeaderSliceError as ExtsSliceError}
use Rattle.ip_ext_slices.specs.declared.err.ipv6_exts.header_slice_error.HeaderSliceError.TheVariants as exts
use Rattle.ip_ext_slices.specs.ChainFault.{chain_fault, exts_in_packet}
use Rattle.ip_ext_slices.specs.Ipv4Fault.{ipv4_chain_fault}
use Rattle.etherparse_ip.specs.LenSources.{front, ipv4_len_source, ipv6_len_source}
use Rattle.etherparse_ip.specs.declared.err.ipv4.slice_error.SliceError.{SliceError as Ipv4SliceError}
use Rattle.etherparse_ip.specs.declared.err.ipv4.slice_error.SliceError.TheVariants as ipv4
use Rattle.etherparse_ip.specs.declared.err.ipv6.slice_error.SliceError.{SliceError as Ipv6SliceError}
use Rattle.etherparse_ip.specs.declared.err.ipv6.slice_error.SliceError.TheVariants as ipv6

-- what follows the base header in the packet's front
abbrev pub ipv4_after : List ℕ → List ℕ
ipv4_after s = drop (ipv4_header_len s) (front ipv4_len_source (total_len s) s)

abbrev pub ipv6_after : List ℕ → List ℕ
ipv6_after s = drop 40 (front (ipv6_len_source (payload_length s) (length s)) (payload_length s) s)

-- the error after an IPv4 base header
abbrev pub ipv4_fault_after : List ℕ → Option AuthSliceError
ipv4_fault_after s =
    if nat_lt (total_len s) (ipv4_header_len s) then Some (auth.Len (too_short Ipv4HeaderTotalLen (total_len s) 0 layer.Ipv4Packet (ipv4_header_len s)))
    else if nat_lt (length s) (total_len s) then Some (auth.Len (too_short Slice (length s) 0 layer.Ipv4Packet (total_len s)))
    else option_map (auth_in_packet ipv4_len_source (ipv4_header_len s)) (ipv4_chain_fault (protocol s) (ipv4_after s))

-- the error of the chain after an IPv6 base header
abbrev pub ipv6_chain_fault : List ℕ → Option ExtsSliceError
ipv6_chain_fault s = option_map (exts_in_packet (ipv6_len_source (payload_length s) (length s)) 40) (option_map (λ f. f.0) (chain_fault (ipv6_next_header s) (ipv6_after s)))

-- the error after an IPv6 base header, if the packet must have the length that it states
abbrev pub ipv6_fault_after : List ℕ → Option ExtsSliceError
ipv6_fault_after s =
    if nat_lt (length s) (40 + payload_length s) then Some (exts.Len (too_short Slice (length s) 0 layer.Ipv6Packet (40 + payload_length s)))
    else ipv6_chain_fault s

-- as errors of an IPv4 packet
abbrev pub ipv4_of_header : Ipv4HeaderSliceError → Ipv4SliceError
ipv4_of_header (ipv4_header.Len e) = ipv4.Len e
ipv4_of_header (ipv4_header.Content e) = ipv4.Header e

abbrev pub ipv4_of_exts : AuthSliceError → Ipv4SliceError
ipv4_of_exts (auth.Len e) = ipv4.Len e
ipv4_of_exts (auth.Content e) = ipv4.Exts e

-- as errors of an IPv6 packet
abbrev pub ipv6_of_header : Ipv6HeaderSliceError → Ipv6SliceError
ipv6_of_header (ipv6_header.Len e) = ipv6.Len e
ipv6_of_header (ipv6_header.Content e) = ipv6.Header e

abbrev pub ipv6_of_exts : ExtsSliceError → Ipv6SliceError
ipv6_of_exts (exts.Len e) = ipv6.Len e
ipv6_of_exts (exts.Content e) = ipv6.Exts e

-- as errors of a packet of either IP version
abbrev pub ip_of_ipv4 : AuthSliceError → SliceError
ip_of_ipv4 (auth.Len e) = Len e
ip_of_ipv4 (auth.Content e) = IpHeaders (Ipv4Ext e)

abbrev pub ip_of_ipv6 : ExtsSliceError → SliceError
ip_of_ipv6 (exts.Len e) = Len e
ip_of_ipv6 (exts.Content e) = IpHeaders (Ipv6Ext e)

-- if s doesn't start with an IPv4 packet
abbrev pub ipv4_fault : List ℕ → Option Ipv4SliceError
ipv4_fault s = option_or (option_map ipv4_of_header (ipv4_header_fault s)) (option_map ipv4_of_exts (ipv4_fault_after s))

-- if s doesn't start with an IPv6 packet, strict
abbrev pub ipv6_fault : List ℕ → Option Ipv6SliceError
ipv6_fault s = option_or (option_map ipv6_of_header (ipv6_header_fault s)) (option_map ipv6_of_exts (ipv6_fault_after s))

-- the lax one
abbrev pub ipv6_lax_fault : List ℕ → Option Ipv6SliceError
ipv6_lax_fault s = option_or (option_map ipv6_of_header (ipv6_header_fault s)) (option_map ipv6_of_exts (ipv6_chain_fault s))

-- if s doesn't start with a packet of either IP version: version 4
abbrev pub ip_fault_of_ipv4 : List ℕ → Option SliceError
ip_fault_of_ipv4 s =
    if nat_lt (ihl s) 5 then Some (IpHeaders (Ip (Ipv4HeaderLengthSmallerThanHeader (ihl s))))
    else if nat_lt (length s) (ipv4_header_len s) then Some (Len (too_short Slice (length s) 0 layer.Ipv4Header (ipv4_header_len s)))
    else option_map ip_of_ipv4 (ipv4_fault_after s)

-- version 6
abbrev pub ip_fault_of_ipv6 : List ℕ → Option SliceError
ip_fault_of_ipv6 s =
    if nat_lt (length s) 40 then Some (Len (too_short Slice (length s) 0 layer.Ipv6Header 40))
    else option_map ip_of_ipv6 (ipv6_fault_after s)

-- any version
abbrev pub ip_fault : List ℕ → Option SliceError
ip_fault s =
    if length s == 0 then Some (Len (too_short Slice 0 0 layer.IpHeader 1))
    else if version s == 4 then ip_fault_of_ipv4 s
    else if version s == 6 then ip_fault_of_ipv6 s
    else Some (IpHeaders (Ip (UnsupportedIpVersion (version s))))
