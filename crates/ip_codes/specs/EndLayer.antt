-- The layer of a header that is truncated or faulty.
use Rattle.std.specs.Prelude.{Option, Some, None}
use Rattle.std.specs.Option.{unwrap_or}
use Rattle.ip_base.specs.declared.err.layer.Layer.{Layer}
use Rattle.ip_base.specs.declared.err.layer.Layer.TheVariants.{IpHeader, Ipv4Header, IpAuthHeader, Ipv6HopByHopHeader}
use Rattle.ip_base.specs.declared.err.ipv6_exts.header_error.HeaderError.TheVariants.{HopByHopNotAtStart, IpAuth}
use Rattle.ip_base.specs.declared.err.ip.header_error.HeaderError.TheVariants.{UnsupportedIpVersion, Ipv4HeaderLengthSmallerThanHeader}
use Rattle.ip_base.specs.declared.err.ip.headers_error.HeadersError.TheVariants.{Ip, Ipv4Ext, Ipv6Ext}
use Rattle.ip_base.specs.declared.err.ip.slice_error.SliceError.{SliceError}
use Rattle.ip_base.specs.declared.err.ip.slice_error.SliceError.TheVariants.{Len, IpHeaders}
use Rattle.ip_dissect.specs.declared.end.End.{End}
use Rattle.ip_dissect.specs.declared.end.End.TheVariants as end

-- the layer that an error in a packet names
abbrev pub error_layer : SliceError → Layer
error_layer (Len e) = e.layer
error_layer (IpHeaders (Ip (UnsupportedIpVersion v))) = IpHeader
error_layer (IpHeaders (Ip (Ipv4HeaderLengthSmallerThanHeader l))) = Ipv4Header
error_layer (IpHeaders (Ipv4Ext e)) = IpAuthHeader
error_layer (IpHeaders (Ipv6Ext HopByHopNotAtStart)) = Ipv6HopByHopHeader
error_layer (IpHeaders (Ipv6Ext (IpAuth e))) = IpAuthHeader

-- the layer of the header at an end that is truncated or faulty, or else the one that the error names
abbrev pub end_layer : End → Option Layer
end_layer (end.Truncated e header) = Some (unwrap_or header e.layer)
end_layer (end.Fault e header) = Some (unwrap_or header (error_layer e))
end_layer e = None
