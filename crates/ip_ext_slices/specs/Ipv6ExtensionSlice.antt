-- One header of an IPv6 chain.
use Rattle.std.specs.Prelude.{Bool, ◌==◌, ◌&&◌, nat_eq}
use Rattle.std.specs.Cmp.Lexicographic.{pointwise}
use Rattle.ip_ext_headers.specs.Ipv6RawExtHeaderSlice as raw
use Rattle.ip_ext_headers.specs.Ipv6FragmentHeaderSlice as fragment
use Rattle.ip_ext_headers.specs.IpAuthHeaderSlice as auth
use Rattle.ip_spec.specs.Numbers.{HOP_BY_HOP, ROUTING, FRAGMENT, AUTHENTICATION, DESTINATION_OPTIONS}
use Rattle.ip_spec.specs.Chain.{ExtHeader}
use Rattle.ip_ext_slices.specs.declared.ipv6_ext_slice.Ipv6ExtensionSlice.{Ipv6ExtensionSlice}
use Rattle.ip_ext_slices.specs.declared.ipv6_ext_slice.Ipv6ExtensionSlice.TheVariants.{HopByHop, Routing, Fragment, DestinationOptions, Authentication}

-- its number and bytes
abbrev pub header_of : Ipv6ExtensionSlice → ExtHeader
header_of (HopByHop h) = record { number = HOP_BY_HOP; bytes = raw.bytes h }
header_of (Routing h) = record { number = ROUTING; bytes = raw.bytes h }
header_of (Fragment h) = record { number = FRAGMENT; bytes = fragment.bytes h }
header_of (DestinationOptions h) = record { number = DESTINATION_OPTIONS; bytes = raw.bytes h }
header_of (Authentication h) = record { number = AUTHENTICATION; bytes = auth.bytes h }

-- two have the same number and bytes
abbrev pub same_header : Ipv6ExtensionSlice → Ipv6ExtensionSlice → Bool
same_header a b = ((header_of a).number == (header_of b).number) && pointwise nat_eq (header_of a).bytes (header_of b).bytes
