-- The names of layers and of length sources: the names of their variants.
use Rattle.std.specs.Prelude.{ℕ, List, codes}
use Rattle.ip_base.specs.declared.err.layer.Layer.{Layer}
use Rattle.ip_base.specs.declared.err.layer.Layer.TheVariants.{IpHeader, Ipv4Header, Ipv4Packet, IpAuthHeader, Ipv6Header, Ipv6Packet, Ipv6ExtHeader, Ipv6HopByHopHeader, Ipv6DestOptionsHeader, Ipv6RouteHeader, Ipv6FragHeader, Icmpv4}
use Rattle.ip_base.specs.declared.len_source.LenSource.{LenSource}
use Rattle.ip_base.specs.declared.len_source.LenSource.TheVariants.{Slice, Ipv4HeaderTotalLen, Ipv6HeaderPayloadLen}

abbrev pub layer_name : Layer → List ℕ
layer_name IpHeader = codes "IpHeader"
layer_name Ipv4Header = codes "Ipv4Header"
layer_name Ipv4Packet = codes "Ipv4Packet"
layer_name IpAuthHeader = codes "IpAuthHeader"
layer_name Ipv6Header = codes "Ipv6Header"
layer_name Ipv6Packet = codes "Ipv6Packet"
layer_name Ipv6ExtHeader = codes "Ipv6ExtHeader"
layer_name Ipv6HopByHopHeader = codes "Ipv6HopByHopHeader"
layer_name Ipv6DestOptionsHeader = codes "Ipv6DestOptionsHeader"
layer_name Ipv6RouteHeader = codes "Ipv6RouteHeader"
layer_name Ipv6FragHeader = codes "Ipv6FragHeader"
layer_name Icmpv4 = codes "Icmpv4"

abbrev pub len_source_name : LenSource → List ℕ
len_source_name Slice = codes "Slice"
len_source_name Ipv4HeaderTotalLen = codes "Ipv4HeaderTotalLen"
len_source_name Ipv6HeaderPayloadLen = codes "Ipv6HeaderPayloadLen"
