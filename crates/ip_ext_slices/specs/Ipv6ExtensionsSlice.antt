-- The contents of a slice of IPv6 extension headers.
use Rattle.std.specs.Prelude.{ℕ, List, [], Option, Bool, ◌==◌, ◌&&◌, nat_eq}
use Rattle.std.specs.Option.{option_eq, option_map_or}
use Rattle.std.specs.Cmp.Lexicographic.{pointwise}
use Rattle.ip_base.specs.declared.ip_number_impl.IpNumber.{IpNumber}
use Rattle.ip_spec.specs.Chain.{ExtHeader}
use Rattle.ip_ext_slices.specs.Longest.{longest_chain}
use Rattle.ip_ext_slices.specs.declared.ipv6_exts_slice.Ipv6ExtensionsSlice.{Ipv6ExtensionsSlice}

-- the number of its first header
abbrev pub first_header_number : Ipv6ExtensionsSlice → Option IpNumber
first_header_number x = x.first_header

-- its bytes
abbrev pub bytes : Ipv6ExtensionsSlice → List ℕ
bytes x = x.slice.now

-- its headers: the longest chain at the start of its bytes, which is all of them, or none if there is no first header
abbrev pub headers_in : Ipv6ExtensionsSlice → List ExtHeader
headers_in x = option_map_or (λ n. longest_chain n.0 x.slice.now) x.first_header []

-- two have the same first number and bytes
abbrev pub same_slice : Ipv6ExtensionsSlice → Ipv6ExtensionsSlice → Bool
same_slice a b = option_eq (λ m n. m.0 == n.0) (first_header_number a) (first_header_number b) && pointwise nat_eq (bytes a) (bytes b)
