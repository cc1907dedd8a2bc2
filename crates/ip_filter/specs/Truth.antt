-- What a term says of a packet.
use Rattle.std.specs.Prelude.{ℕ, ◌+◌, bit_and, List, length, Bool, true, false, not, ◌==◌, ◌&&◌, ◌||◌, ◌/◌, ◌%◌, nat_lt, if◌then◌else◌, Option, Some, None, is_some}
use Rattle.std.specs.Int.{from_be_bytes, w32, w128}
use Rattle.std.specs.List.{list_any}
use Rattle.std.specs.Option.{option_map_or, option_or}
use Rattle.ip_spec.specs.Chain.{ExtHeader, bytes_of}
use Rattle.ip_base.specs.Ipv4Header.{ipv4_source_octets, ipv4_destination_octets}
use Rattle.ip_base.specs.Ipv6Header.{ipv6_source_octets, ipv6_destination_octets}
use Rattle.ip_base.specs.declared.err.ipv6_exts.header_error.HeaderError.TheVariants.{HopByHopNotAtStart, IpAuth}
use Rattle.ip_base.specs.declared.err.ip.header_error.HeaderError.TheVariants.{UnsupportedIpVersion, Ipv4HeaderLengthSmallerThanHeader}
use Rattle.ip_base.specs.declared.err.ip.headers_error.HeadersError.TheVariants.{Ip, Ipv4Ext, Ipv6Ext}
use Rattle.ip_base.specs.declared.err.ip.slice_error.SliceError.{SliceError}
use Rattle.ip_base.specs.declared.err.ip.slice_error.SliceError.TheVariants.{Len, IpHeaders}
use Rattle.ip_base.specs.declared.err.layer.Layer.{Layer}
use Rattle.ip_base.specs.declared.err.layer.Layer.TheVariants as layer
use Rattle.ip_codes.specs.Codes.{layer_code}
use Rattle.ip_codes.specs.EndLayer.{end_layer}
use Rattle.ip_dissect.specs.Dissection.{DissectedParts}
use Rattle.ip_dissect.specs.Fragment.{is_fragment_header, fragment_of, ipv4_fragment}
use Rattle.ip_dissect.specs.declared.fragment.Fragment.{Fragment}
use Rattle.ip_dissect.specs.declared.fragment.FragmentKind.{FragmentKind}
use Rattle.ip_dissect.specs.declared.fragment.FragmentKind.TheVariants.{First, Middle, Last}
use Rattle.ip_dissect.specs.declared.end.End.{End}
use Rattle.ip_dissect.specs.declared.end.End.TheVariants as end
use Rattle.ip_base.specs.BaseHeaderFields.{ipv4_ttl, ipv4_dscp, ipv4_ecn, ipv6_hop_limit, ipv6_traffic_class, ipv6_flow_label}
use Rattle.ip_filter.specs.Network.{ipv4_lies_in, ipv6_lies_in}
use Rattle.ip_filter.specs.HeaderFields.{has_option, has_spi, has_routing_type, has_segments_left}
use Rattle.ip_filter.specs.Transport.{source_port, destination_port, lacks_transport, is_icmp, is_icmp6, icmp_byte, icmp6_byte, esp_spi, tcp_flags, is_port_in, are_set}
use Rattle.ip_filter.specs.Access.{accessed}
use Rattle.ip_filter.specs.declared.network.Network.{Network}
use Rattle.ip_filter.specs.declared.term.Comparison.{Comparison}
use Rattle.ip_filter.specs.declared.term.Comparison.TheVariants as by
use Rattle.ip_filter.specs.declared.term.Quantity.{Quantity}
use Rattle.ip_filter.specs.declared.term.Quantity.TheVariants as number
use Rattle.ip_filter.specs.declared.term.FaultKind.{FaultKind}
use Rattle.ip_filter.specs.declared.term.FaultKind.TheVariants as kind
use Rattle.ip_filter.specs.declared.term.Term.{Term}
use Rattle.ip_filter.specs.declared.term.Term.TheVariants as term

abbrev pub compares : Comparison → ℕ → ℕ → Bool
compares by.Equal a b = a == b
compares by.NotEqual a b = not (a == b)
compares by.Less a b = nat_lt a b
compares by.AtMost a b = not (nat_lt b a)
compares by.Greater a b = nat_lt b a
compares by.AtLeast a b = not (nat_lt a b)

abbrev pub has_base : DissectedParts → Bool
has_base p = not (p.version == 0)

abbrev pub is_version : ℕ → DissectedParts → Bool
is_version v p = has_base p && (p.version == v)

-- an atomic fragment is the whole packet, so it is none of these
abbrev pub is_first_kind : FragmentKind → Bool
is_first_kind First = true
is_first_kind k = false

abbrev pub is_later_kind : FragmentKind → Bool
is_later_kind Middle = true
is_later_kind Last = true
is_later_kind k = false

-- q is true of what a fragment header says
abbrev pub says_fragment : (Fragment → Bool) → ExtHeader → Bool
says_fragment q h = is_fragment_header h && q (fragment_of h)

-- q is true of what the base header of an IPv4 packet says (RFC 791, section 3.1), or one of the fragment headers of an IPv6
-- packet (RFC 8200, section 4.5), which may have several
abbrev pub some_fragment : (Fragment → Bool) → DissectedParts → Bool
some_fragment q p =
    if p.version == 4 then option_map_or q (ipv4_fragment p.base) false
    else list_any (says_fragment q) p.headers

-- a header is truncated at the end
abbrev pub is_truncated : End → Bool
is_truncated (end.Truncated e header) = true
is_truncated e = false

abbrev pub fault_kind : SliceError → FaultKind
fault_kind (Len e) = kind.TooShort
fault_kind (IpHeaders (Ip (UnsupportedIpVersion v))) = kind.UnsupportedIpVersion
fault_kind (IpHeaders (Ip (Ipv4HeaderLengthSmallerThanHeader l))) = kind.Ipv4HeaderLength
fault_kind (IpHeaders (Ipv4Ext e)) = kind.ZeroPayloadLen
fault_kind (IpHeaders (Ipv6Ext HopByHopNotAtStart)) = kind.HopByHopNotAtStart
fault_kind (IpHeaders (Ipv6Ext (IpAuth e))) = kind.ZeroPayloadLen

-- the number of a kind, to compare two
abbrev pub kind_index : FaultKind → ℕ
kind_index kind.TooShort = 0
kind_index kind.HopByHopNotAtStart = 1
kind_index kind.ZeroPayloadLen = 2
kind_index kind.UnsupportedIpVersion = 3
kind_index kind.Ipv4HeaderLength = 4

-- the kind of the fault at an end, if it is one
abbrev pub fault_in : End → Option FaultKind
fault_in (end.Fault e header) = Some (fault_kind e)
fault_in e = None

-- the layer of an extension header
abbrev pub is_extension_layer : Layer → Bool
is_extension_layer layer.IpAuthHeader = true
is_extension_layer layer.Ipv6HopByHopHeader = true
is_extension_layer layer.Ipv6DestOptionsHeader = true
is_extension_layer layer.Ipv6RouteHeader = true
is_extension_layer layer.Ipv6FragHeader = true
is_extension_layer l = false

-- The layer with the code l is x, or stands for it in a packet of version v: `IPv6-extension` for that of any extension
-- header of IPv6.
abbrev pub stands_for : ℕ → ℕ → Layer → Bool
stands_for l v x = (layer_code x == l) || ((l == layer_code layer.Ipv6ExtHeader) && (v == 6) && is_extension_layer x)

-- the header that is truncated or faulty in a packet of version v is in the layer with this code
abbrev pub is_in_layer : ℕ → ℕ → End → Bool
is_in_layer l v e = option_map_or (stands_for l v) (end_layer e) false

-- the address of the packet lies in the network: its octets are these of an IPv4 base header, or those of an IPv6 one
abbrev pub address_lies_in : Network → (List ℕ → List ℕ) → (List ℕ → List ℕ) → DissectedParts → Bool
address_lies_in n ipv4 ipv6 p =
    if p.version == 4 then ipv4_lies_in n (from_be_bytes w32 (ipv4 p.base))
    else if p.version == 6 then ipv6_lies_in n (from_be_bytes w128 (ipv6 p.base))
    else false

abbrev pub has_source : Network → DissectedParts → Bool
has_source n p = address_lies_in n ipv4_source_octets ipv6_source_octets p

abbrev pub has_destination : Network → DissectedParts → Bool
has_destination n p = address_lies_in n ipv4_destination_octets ipv6_destination_octets p

-- a number of a packet, which it has if it has a base header
abbrev pub of_packet : ℕ → DissectedParts → Option ℕ
of_packet n p = if has_base p then Some n else None

-- a field of the base header, which it has in both versions
abbrev pub base_field : (List ℕ → ℕ) → (List ℕ → ℕ) → DissectedParts → Option ℕ
base_field ipv4 ipv6 p = if p.version == 4 then Some (ipv4 p.base) else if p.version == 6 then Some (ipv6 p.base) else None

-- The length of the packet: the one that its base header states, or if that states none, all bytes that are there.
abbrev pub packet_len : DissectedParts → Option ℕ
packet_len p = option_or p.stated (of_packet (length p.base + length (bytes_of p.headers) + length p.payload) p)

-- The base header states the length 0, although bytes follow it: a payload length in IPv6 (RFC 8200, section 3), a total
-- length in IPv4 (RFC 791, section 3.1). A jumbo payload option (RFC 2675) is not asked.
abbrev pub lacks_length : DissectedParts → Bool
lacks_length p = has_base p && not (is_some p.stated) && (nat_lt 0 (length p.headers) || nat_lt 0 (length p.payload))

-- The quantity, if the packet has it. The traffic class of IPv6 is divided as byte 1 of IPv4 is (RFC 2474; RFC 3168).
abbrev pub quantity_of : Quantity → DissectedParts → Option ℕ
quantity_of number.Headers p = of_packet (length p.headers) p
quantity_of number.ChainBytes p = of_packet (length (bytes_of p.headers)) p
quantity_of number.Payload p = of_packet (length p.payload) p
quantity_of number.Length p = packet_len p
quantity_of number.HopLimit p = base_field ipv4_ttl ipv6_hop_limit p
quantity_of number.Dscp p = base_field ipv4_dscp (λ b. ipv6_traffic_class b / 4) p
quantity_of number.Ecn p = base_field ipv4_ecn (λ b. ipv6_traffic_class b % 4) p
quantity_of number.FlowLabel p = if p.version == 6 then Some (ipv6_flow_label p.base) else None

-- the term holds of the packet with the parts p
abbrev pub holds : Term → DissectedParts → Bool
holds (term.Version v) p = is_version v p
holds (term.Header n) p = list_any (λ h. h.number == n) p.headers
holds (term.LeadsTo n) p = has_base p && (p.number == n)
holds term.Fragment p = some_fragment (λ x. is_first_kind x.kind || is_later_kind x.kind) p
holds term.FirstFragment p = some_fragment (λ x. is_first_kind x.kind) p
holds term.LaterFragment p = some_fragment (λ x. is_later_kind x.kind) p
holds term.Truncated p = is_truncated p.end
holds term.Incomplete p = not (p.missing == 0)
holds term.Fault p = is_some (fault_in p.end)
holds (term.FaultOf kind) p = option_map_or (λ k. kind_index k == kind_index kind) (fault_in p.end) false
holds (term.TruncatedAt l) p = is_truncated p.end && is_in_layer (layer_code l) p.version p.end
holds (term.FaultAt kind l) p = option_map_or (λ k. kind_index k == kind_index kind) (fault_in p.end) false && is_in_layer (layer_code l) p.version p.end
holds (term.Compared q c n) p = option_map_or (λ x. compares c x n) (quantity_of q p) false
holds (term.SecurityParameters i) p = list_any (has_spi i) p.headers || option_map_or (λ x. x == i) (esp_spi p) false
holds (term.Option n) p = list_any (has_option n) p.headers
holds (term.RoutingType n) p = list_any (has_routing_type n) p.headers
holds (term.SegmentsLeft c n) p = list_any (has_segments_left (λ x. compares c x n)) p.headers
holds (term.Identification i) p = some_fragment (λ x. x.identification == i) p
holds (term.Source n) p = has_source n p
holds (term.Destination n) p = has_destination n p
holds (term.Either n) p = has_source n p || has_destination n p
holds (term.SourcePort r) p = option_map_or (is_port_in r) (source_port p) false
holds (term.DestinationPort r) p = option_map_or (is_port_in r) (destination_port p) false
holds (term.Port r) p = option_map_or (is_port_in r) (source_port p) false || option_map_or (is_port_in r) (destination_port p) false
holds term.NoTransport p = lacks_transport p
holds term.NoLength p = lacks_length p
holds term.Icmp p = is_icmp p
holds term.Icmp6 p = is_icmp6 p
holds (term.IcmpType n) p = option_map_or (λ x. x == n) (icmp_byte 0 p) false
holds (term.IcmpCode n) p = option_map_or (λ x. x == n) (icmp_byte 1 p) false
holds (term.Icmp6Type n) p = option_map_or (λ x. x == n) (icmp6_byte 0 p) false
holds (term.Icmp6Code n) p = option_map_or (λ x. x == n) (icmp6_byte 1 p) false
holds (term.TcpFlags t) p = option_map_or (are_set t) (tcp_flags p) false
holds (term.Access a c) p = option_map_or (λ n. compares c.comparison (bit_and n c.mask) c.number) (accessed a p) false
-- a packet alone is as long on the wire as it is, has no VLAN tag, and nothing announced it
holds (term.WireLength c n) p = option_map_or (λ x. compares c x n) (packet_len p) false
holds term.Vlan p = false
holds (term.VlanOf n) p = false
holds term.Arp p = false
holds term.Mismatched p = false
