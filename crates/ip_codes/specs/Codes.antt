-- The codes of errors, layers, length sources, fragments and ends, for counts by code and for C.
use Rattle.std.specs.Prelude.{ℕ, Option}
use Rattle.std.specs.Option.{option_map_or}
use Rattle.ip_base.specs.declared.err.layer.Layer.{Layer}
use Rattle.ip_base.specs.declared.err.layer.Layer.TheVariants.{IpHeader, Ipv4Header, Ipv4Packet, IpAuthHeader, Ipv6Header, Ipv6Packet, Ipv6ExtHeader, Ipv6HopByHopHeader, Ipv6DestOptionsHeader, Ipv6RouteHeader, Ipv6FragHeader, Icmpv4}
use Rattle.ip_base.specs.declared.len_source.LenSource.{LenSource}
use Rattle.ip_base.specs.declared.len_source.LenSource.TheVariants.{Slice, Ipv4HeaderTotalLen, Ipv6HeaderPayloadLen}
use Rattle.ip_base.specs.declared.err.ipv6_exts.header_error.HeaderError.TheVariants.{HopByHopNotAtStart, IpAuth}
use Rattle.ip_base.specs.declared.err.ip.header_error.HeaderError.TheVariants.{UnsupportedIpVersion, Ipv4HeaderLengthSmallerThanHeader}
use Rattle.ip_base.specs.declared.err.ip.headers_error.HeadersError.TheVariants.{Ip, Ipv4Ext, Ipv6Ext}
use Rattle.ip_base.specs.declared.err.ip.slice_error.SliceError.{SliceError}
use Rattle.ip_base.specs.declared.err.ip.slice_error.SliceError.TheVariants.{Len, IpHeaders}
use Rattle.ip_dissect.specs.declared.fragment.Fragment.{Fragment}
use Rattle.ip_dissect.specs.declared.fragment.FragmentKind.{FragmentKind}
use Rattle.ip_dissect.specs.declared.fragment.FragmentKind.TheVariants.{Atomic, First, Middle, Last}
use Rattle.ip_dissect.specs.declared.end.End.{End}
use Rattle.ip_dissect.specs.declared.end.End.TheVariants as end

-- the kinds of errors: none, too few bytes, hop-by-hop options that aren't first, an authentication header with a length
-- of 0, an IP version that is neither 4 nor 6, an internet header length below 5
abbrev pub NO_FAULT : ℕ
NO_FAULT = 0

abbrev pub TOO_SHORT : ℕ
TOO_SHORT = 1

abbrev pub HOP_BY_HOP_NOT_AT_START : ℕ
HOP_BY_HOP_NOT_AT_START = 2

abbrev pub ZERO_PAYLOAD_LEN : ℕ
ZERO_PAYLOAD_LEN = 3

abbrev pub UNSUPPORTED_IP_VERSION : ℕ
UNSUPPORTED_IP_VERSION = 4

abbrev pub IPV4_HEADER_LENGTH : ℕ
IPV4_HEADER_LENGTH = 5

-- of an error in a packet
abbrev pub error_kind : SliceError → ℕ
error_kind (Len e) = TOO_SHORT
error_kind (IpHeaders (Ip (UnsupportedIpVersion v))) = UNSUPPORTED_IP_VERSION
error_kind (IpHeaders (Ip (Ipv4HeaderLengthSmallerThanHeader l))) = IPV4_HEADER_LENGTH
error_kind (IpHeaders (Ipv4Ext e)) = ZERO_PAYLOAD_LEN
error_kind (IpHeaders (Ipv6Ext HopByHopNotAtStart)) = HOP_BY_HOP_NOT_AT_START
error_kind (IpHeaders (Ipv6Ext (IpAuth e))) = ZERO_PAYLOAD_LEN

-- the layers; 0 is none
abbrev pub layer_code : Layer → ℕ
layer_code IpHeader = 1
layer_code Ipv4Header = 2
layer_code Ipv4Packet = 3
layer_code IpAuthHeader = 4
layer_code Ipv6Header = 5
layer_code Ipv6Packet = 6
layer_code Ipv6ExtHeader = 7
layer_code Ipv6HopByHopHeader = 8
layer_code Ipv6DestOptionsHeader = 9
layer_code Ipv6RouteHeader = 10
layer_code Ipv6FragHeader = 11
layer_code Icmpv4 = 12

abbrev pub header_code : Option Layer → ℕ
header_code header = option_map_or layer_code header 0

-- the sources of a length; 0 is none
abbrev pub len_source_code : LenSource → ℕ
len_source_code Slice = 1
len_source_code Ipv4HeaderTotalLen = 2
len_source_code Ipv6HeaderPayloadLen = 3

-- the kinds of fragments; 0 is none
abbrev pub kind_code : FragmentKind → ℕ
kind_code Atomic = 1
kind_code First = 2
kind_code Middle = 3
kind_code Last = 4

abbrev pub fragment_code : Option Fragment → ℕ
fragment_code f = option_map_or (λ x. kind_code x.kind) f 0

-- the ends
abbrev pub end_code : End → ℕ
end_code end.Payload = 0
end_code end.LaterFragment = 1
end_code (end.Truncated e header) = 2
end_code (end.Fault e header) = 3
