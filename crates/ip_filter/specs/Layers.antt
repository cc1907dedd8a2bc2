-- Which layers a header can be in that is truncated or faulty.
use Rattle.std.specs.Prelude.{Bool, true, false}
use Rattle.ip_base.specs.declared.err.layer.Layer.{Layer}
use Rattle.ip_base.specs.declared.err.layer.Layer.TheVariants as layer
use Rattle.ip_filter.specs.declared.term.FaultKind.{FaultKind}
use Rattle.ip_filter.specs.declared.term.FaultKind.TheVariants as kind
use Rattle.ip_filter.specs.declared.layers.LayerError.{LayerError}
use Rattle.ip_filter.specs.declared.layers.LayerError.TheVariants as error

-- A header of this layer can be truncated. A packet is not: bytes of it are missing.
abbrev pub can_be_truncated : Layer → Bool
can_be_truncated layer.Ipv4Packet = false
can_be_truncated layer.Ipv6Packet = false
can_be_truncated layer.Icmpv4 = false
can_be_truncated l = true

-- The length that is stated can leave too few bytes for a header of this layer, or, of IPv4, for the base header.
abbrev pub can_be_too_short : Layer → Bool
can_be_too_short layer.IpHeader = false
can_be_too_short layer.Ipv4Header = false
can_be_too_short layer.Ipv6Header = false
can_be_too_short layer.Ipv6Packet = false
can_be_too_short layer.Icmpv4 = false
can_be_too_short l = true

-- a header of this layer can be faulty in this way
abbrev pub can_be_faulty : FaultKind → Layer → Bool
can_be_faulty kind.TooShort l = can_be_too_short l
can_be_faulty kind.HopByHopNotAtStart layer.Ipv6HopByHopHeader = true
can_be_faulty kind.HopByHopNotAtStart layer.Ipv6ExtHeader = true
can_be_faulty kind.ZeroPayloadLen layer.IpAuthHeader = true
can_be_faulty kind.ZeroPayloadLen layer.Ipv6ExtHeader = true
can_be_faulty kind.UnsupportedIpVersion layer.IpHeader = true
can_be_faulty kind.Ipv4HeaderLength layer.Ipv4Header = true
can_be_faulty k l = false

-- A header of this layer can be truncated, or faulty in this way. `IPv6-extension` stands for extension headers of IPv6.
abbrev pub can_have : LayerError → Layer → Bool
can_have error.Truncated l = can_be_truncated l
can_have (error.Fault k) l = can_be_faulty k l
