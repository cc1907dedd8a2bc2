-- The texts of faults.
use Rattle.std.specs.Prelude.{ℕ, List, ◌++◌, codes}
use Rattle.std.specs.Fmt.{decimal}
use Rattle.ip_base.specs.declared.err.len_error.LenError.{LenError}
use Rattle.ip_base.specs.declared.err.ip_auth.header_error.HeaderError.{HeaderError as AuthError}
use Rattle.ip_base.specs.declared.err.ip_auth.header_error.HeaderError.TheVariants.{ZeroPayloadLen}
use Rattle.ip_ext_headers.specs.declared.err.ip_auth.header_slice_error.HeaderSliceError.{HeaderSliceError as AuthSliceError}
use Rattle.ip_ext_headers.specs.declared.err.ip_auth.header_slice_error.HeaderSliceError.TheVariants as auth
use Rattle.ip_ext_chains.specs.Names.{layer_name, len_source_name}
use Rattle.ip_base.specs.declared.err.ipv6_exts.header_error.HeaderError.{HeaderError}
use Rattle.ip_base.specs.declared.err.ipv6_exts.header_error.HeaderError.TheVariants.{HopByHopNotAtStart, IpAuth}
use Rattle.ip_base.specs.declared.err.ip.header_error.HeaderError.{HeaderError as BaseError}
use Rattle.ip_base.specs.declared.err.ip.header_error.HeaderError.TheVariants.{UnsupportedIpVersion, Ipv4HeaderLengthSmallerThanHeader}
use Rattle.ip_base.specs.declared.err.ip.headers_error.HeadersError.{HeadersError}
use Rattle.ip_base.specs.declared.err.ip.headers_error.HeadersError.TheVariants.{Ip, Ipv4Ext, Ipv6Ext}
use Rattle.ip_base.specs.declared.err.ip.slice_error.SliceError.{SliceError}
use Rattle.ip_base.specs.declared.err.ip.slice_error.SliceError.TheVariants as packet
use Rattle.ip_ext_slices.specs.declared.err.ipv6_exts.header_slice_error.HeaderSliceError.{HeaderSliceError}
use Rattle.ip_ext_slices.specs.declared.err.ipv6_exts.header_slice_error.HeaderSliceError.TheVariants.{Len, Content}

-- fewer bytes than required: `len R of L S Y at O`
abbrev pub len_text : LenError → List ℕ
len_text e =
    codes "len " ++ decimal e.required_len ++ codes " of " ++ decimal e.len
    ++ codes " " ++ len_source_name e.len_source ++ codes " " ++ layer_name e.layer
    ++ codes " at " ++ decimal e.layer_start_offset

abbrev pub len_fault_text : LenError → List ℕ
len_fault_text e = codes "fault " ++ len_text e

-- the error in the bytes of an authentication header
abbrev pub auth_fault_text : AuthError → List ℕ
auth_fault_text ZeroPayloadLen = codes "fault ZeroPayloadLen"

-- the error of an authentication header
abbrev pub auth_slice_fault_text : AuthSliceError → List ℕ
auth_slice_fault_text (auth.Len e) = len_fault_text e
auth_slice_fault_text (auth.Content e) = auth_fault_text e

-- the error in the bytes of an IPv6 chain
abbrev pub content_fault_text : HeaderError → List ℕ
content_fault_text HopByHopNotAtStart = codes "fault HopByHopNotAtStart"
content_fault_text (IpAuth e) = auth_fault_text e

-- the error that ended an IPv6 chain
abbrev pub chain_fault_text : HeaderSliceError → List ℕ
chain_fault_text (Len e) = len_fault_text e
chain_fault_text (Content e) = content_fault_text e

-- the error in the bytes of a base header
abbrev pub base_fault_text : BaseError → List ℕ
base_fault_text (UnsupportedIpVersion version) = codes "fault UnsupportedIpVersion " ++ decimal version
base_fault_text (Ipv4HeaderLengthSmallerThanHeader ihl) = codes "fault Ipv4HeaderLengthSmallerThanHeader " ++ decimal ihl

-- the error in the bytes of all headers of a packet
abbrev pub headers_fault_text : HeadersError → List ℕ
headers_fault_text (Ip e) = base_fault_text e
headers_fault_text (Ipv4Ext e) = auth_fault_text e
headers_fault_text (Ipv6Ext e) = content_fault_text e

-- the error of a packet
abbrev pub packet_fault_text : SliceError → List ℕ
packet_fault_text (packet.Len e) = len_fault_text e
packet_fault_text (packet.IpHeaders e) = headers_fault_text e
