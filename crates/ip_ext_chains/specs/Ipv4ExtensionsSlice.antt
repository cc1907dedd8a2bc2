-- The contents of slices of IPv4 extension headers.
use Rattle.std.specs.Prelude.{List, Bool, nat_eq}
use Rattle.std.specs.Option.{option_eq}
use Rattle.std.specs.Ordering.{on}
use Rattle.std.specs.Cmp.Lexicographic.{pointwise}
use Rattle.ip_ext_headers.specs.IpAuthHeaderSlice.{bytes}
use Rattle.ip_spec.specs.Chain.{ExtHeader}
use Rattle.ip_ext_slices.specs.Ipv4Longest.{authentication_chain}
use Rattle.ip_ext_chains.specs.declared.ipv4_exts_slice.Ipv4ExtensionsSlice.{Ipv4ExtensionsSlice}

-- their headers
abbrev pub headers_in : Ipv4ExtensionsSlice → List ExtHeader
headers_in x = authentication_chain x.auth

-- two have the same bytes, or both no header
abbrev pub same_slices : Ipv4ExtensionsSlice → Ipv4ExtensionsSlice → Bool
same_slices = on (λ (x : Ipv4ExtensionsSlice). x.auth) (option_eq (on bytes (pointwise nat_eq)))
