-- The contents of a packet of either IP version.
use Rattle.std.specs.Prelude.{◌≡◌, ℕ, List, Bool, true, false, Option, Some, None}
use Rattle.std.specs.Net.Addr.{ipv4_octets, ipv6_octets}
use Rattle.std.specs.declared.net.ip_addr.IpAddr.{IpAddr}
use Rattle.std.specs.declared.net.ip_addr.IpAddr.TheVariants.{V4, V6}
use Rattle.ip_base.specs.Ipv4Header.{ipv4_source_octets, ipv4_destination_octets}
use Rattle.ip_base.specs.Ipv6Header.{ipv6_source_octets, ipv6_destination_octets}
use Rattle.etherparse_ip.specs.Packet.{Parts, IsIpv4Packet, IsIpv6Packet}
use Rattle.etherparse_ip.specs.Ipv4Slice.{ipv4_parts}
use Rattle.etherparse_ip.specs.Ipv6Slice.{ipv6_parts}
use Rattle.etherparse_ip.specs.declared.ipv4_slice.Ipv4Slice.{Ipv4Slice}
use Rattle.etherparse_ip.specs.declared.ipv6_slice.Ipv6Slice.{Ipv6Slice}
use Rattle.etherparse_ip.specs.declared.ip_slice.IpSlice.{IpSlice}
use Rattle.etherparse_ip.specs.declared.ip_slice.IpSlice.TheVariants.{Ipv4, Ipv6}

-- its parts
abbrev pub ip_parts : IpSlice → Parts
ip_parts (Ipv4 x) = ipv4_parts x
ip_parts (Ipv6 x) = ipv6_parts x

-- bytes s start with it
abbrev pub IsIpPacket : List ℕ → IpSlice → Type 0
IsIpPacket s (Ipv4 x) = IsIpv4Packet s (ipv4_parts x)
IsIpPacket s (Ipv6 x) = IsIpv6Packet s (ipv6_parts x)

-- the packet, if it is IPv4
abbrev pub ipv4_of : IpSlice → Option Ipv4Slice
ipv4_of (Ipv4 x) = Some x
ipv4_of (Ipv6 x) = None

abbrev pub ipv6_of : IpSlice → Option Ipv6Slice
ipv6_of (Ipv4 x) = None
ipv6_of (Ipv6 x) = Some x

-- two have the same version and the same parts
abbrev pub AreSame : IpSlice → IpSlice → Type 0
AreSame (Ipv4 a) (Ipv4 b) = ipv4_parts a ≡ ipv4_parts b
AreSame (Ipv4 a) (Ipv6 b) = ⊥
AreSame (Ipv6 a) (Ipv4 b) = ⊥
AreSame (Ipv6 a) (Ipv6 b) = ipv6_parts a ≡ ipv6_parts b

-- the octets of an address of either IP version
abbrev pub ip_octets : IpAddr → List ℕ
ip_octets (V4 a) = ipv4_octets a
ip_octets (V6 a) = ipv6_octets a

-- the packet is IPv4
abbrev pub is_of_ipv4 : IpSlice → Bool
is_of_ipv4 (Ipv4 x) = true
is_of_ipv4 (Ipv6 x) = false

-- the octets of the addresses in its base header
abbrev pub source_octets : IpSlice → List ℕ
source_octets (Ipv4 x) = ipv4_source_octets (ipv4_parts x).base
source_octets (Ipv6 x) = ipv6_source_octets (ipv6_parts x).base

abbrev pub destination_octets : IpSlice → List ℕ
destination_octets (Ipv4 x) = ipv4_destination_octets (ipv4_parts x).base
destination_octets (Ipv6 x) = ipv6_destination_octets (ipv6_parts x).base
