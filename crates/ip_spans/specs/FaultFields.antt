-- An error in plain fields for C callers.
use Rattle.std.specs.Prelude.{ℕ, Option, Some, None}
use Rattle.ip_base.specs.declared.err.len_error.LenError.{LenError}
use Rattle.ip_base.specs.declared.err.layer.Layer.TheVariants.{IpAuthHeader}
use Rattle.ip_base.specs.declared.err.ipv6.header_error.HeaderError.TheVariants as ipv6_header
use Rattle.ip_base.specs.declared.err.ip_auth.header_error.HeaderError.{HeaderError as AuthError}
use Rattle.ip_base.specs.declared.err.ip_auth.header_error.HeaderError.TheVariants.{ZeroPayloadLen}
use Rattle.ip_base.specs.declared.err.ipv6_exts.header_error.HeaderError.{HeaderError as ExtsError}
use Rattle.ip_base.specs.declared.err.ipv6_exts.header_error.HeaderError.TheVariants.{HopByHopNotAtStart, IpAuth}
use Rattle.ip_base.specs.declared.err.ip.header_error.HeaderError.{HeaderError}
use Rattle.ip_base.specs.declared.err.ip.header_error.HeaderError.TheVariants.{UnsupportedIpVersion, Ipv4HeaderLengthSmallerThanHeader}
use Rattle.ip_base.specs.declared.err.ip.headers_error.HeadersError.{HeadersError}
use Rattle.ip_base.specs.declared.err.ip.headers_error.HeadersError.TheVariants.{Ip, Ipv4Ext, Ipv6Ext}
use Rattle.ip_base.specs.declared.err.ip.slice_error.SliceError.{SliceError}
use Rattle.ip_base.specs.declared.err.ip.slice_error.SliceError.TheVariants as ip
use Rattle.ip_ext_headers.specs.declared.err.ip_auth.header_slice_error.HeaderSliceError.{HeaderSliceError as AuthSliceError}
use Rattle.ip_ext_headers.specs.declared.err.ip_auth.header_slice_error.HeaderSliceError.TheVariants as auth
use Rattle.ip_ext_slices.specs.declared.err.ipv6_exts.header_slice_error.HeaderSliceError.{HeaderSliceError as ExtsSliceError}
use Rattle.ip_ext_slices.specs.declared.err.ipv6_exts.header_slice_error.HeaderSliceError.TheVariants as exts
use Rattle.ip_ext_slices.specs.ChainFault.{Fault}
use Rattle.etherparse_ip.specs.declared.err.ipv6.slice_error.SliceError.{SliceError as Ipv6SliceError}
use Rattle.etherparse_ip.specs.declared.err.ipv6.slice_error.SliceError.TheVariants as ipv6
use Rattle.ip_codes.specs.Codes.{NO_FAULT, TOO_SHORT, HOP_BY_HOP_NOT_AT_START, ZERO_PAYLOAD_LEN, UNSUPPORTED_IP_VERSION, IPV4_HEADER_LENGTH, layer_code, len_source_code}
use Rattle.ip_spans.specs.declared.fault_fields.FaultFields.{FaultFields}

-- too few bytes for a layer's header
abbrev pub len_fields : ℕ → LenError → FaultFields
len_fields header e = record {
  required_len = e.required_len;
  len = e.len;
  offset = e.layer_start_offset;
  kind = TOO_SHORT;
  header = header;
  layer = layer_code e.layer;
  len_source = len_source_code e.len_source;
  value = 0;
}

-- an error of this kind in a header at an offset, with the wrong value
abbrev pub content_fields : ℕ → ℕ → ℕ → ℕ → FaultFields
content_fields header kind offset value = record {
  required_len = 0;
  len = 0;
  offset = offset;
  kind = kind;
  header = header;
  layer = 0;
  len_source = 0;
  value = value;
}

abbrev pub no_fault : FaultFields
no_fault = content_fields 0 NO_FAULT 0 0

-- an error in an authentication header at offset k
abbrev pub auth_error_fields : ℕ → ℕ → AuthError → FaultFields
auth_error_fields header k ZeroPayloadLen = content_fields header ZERO_PAYLOAD_LEN k 0

abbrev pub auth_fault_fields : ℕ → ℕ → AuthSliceError → FaultFields
auth_fault_fields header k (auth.Len e) = len_fields header e
auth_fault_fields header k (auth.Content e) = auth_error_fields header k e

-- an error in an IPv6 chain, in a header at offset k
abbrev pub exts_error_fields : ℕ → ℕ → ExtsError → FaultFields
exts_error_fields header k HopByHopNotAtStart = content_fields header HOP_BY_HOP_NOT_AT_START k 0
exts_error_fields header k (IpAuth e) = auth_error_fields header k e

abbrev pub exts_fields : ℕ → ℕ → ExtsSliceError → FaultFields
exts_fields header k (exts.Len e) = len_fields header e
exts_fields header k (exts.Content e) = exts_error_fields header k e

-- the error at the end of an IPv6 chain, and of an IPv4 one, which is at offset k
abbrev pub chain_fault_fields : ℕ → Option Fault → FaultFields
chain_fault_fields k None = no_fault
chain_fault_fields k (Some (e, header)) = exts_fields (layer_code header) k e

abbrev pub ipv4_chain_fault_fields : ℕ → Option AuthSliceError → FaultFields
ipv4_chain_fault_fields k None = no_fault
ipv4_chain_fault_fields k (Some e) = auth_fault_fields (layer_code IpAuthHeader) k e

-- an error in a base header
abbrev pub base_error_fields : HeaderError → FaultFields
base_error_fields (UnsupportedIpVersion version) = content_fields 0 UNSUPPORTED_IP_VERSION 0 version
base_error_fields (Ipv4HeaderLengthSmallerThanHeader ihl) = content_fields 0 IPV4_HEADER_LENGTH 0 ihl

abbrev pub headers_error_fields : ℕ → HeadersError → FaultFields
headers_error_fields k (Ip e) = base_error_fields e
headers_error_fields k (Ipv4Ext e) = auth_error_fields 0 k e
headers_error_fields k (Ipv6Ext e) = exts_error_fields 0 k e

-- an error in a packet whose extension headers end at offset k
abbrev pub packet_fault_fields : ℕ → SliceError → FaultFields
packet_fault_fields k (ip.Len e) = len_fields 0 e
packet_fault_fields k (ip.IpHeaders e) = headers_error_fields k e

-- an error in an IPv6 packet; the offset of a faulty extension header is 0
abbrev pub ipv6_fault_fields : Ipv6SliceError → FaultFields
ipv6_fault_fields (ipv6.Len e) = len_fields 0 e
ipv6_fault_fields (ipv6.Header (ipv6_header.UnexpectedVersion version)) = content_fields 0 UNSUPPORTED_IP_VERSION 0 version
ipv6_fault_fields (ipv6.Exts e) = exts_error_fields 0 0 e
