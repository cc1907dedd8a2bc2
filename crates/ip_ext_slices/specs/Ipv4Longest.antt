-- The longest chain of IPv4 extension headers at the start of bytes: at most one header, an authentication header,
-- which follows the IPv4 header directly (RFC 4302, section 3.1.1).
use Rattle.std.specs.Prelude.{ℕ, List, [], ◌∷◌, Option}
use Rattle.std.specs.Option.{option_map_or}
use Rattle.ip_ext_headers.specs.IpAuthHeaderSlice.{bytes}
use Rattle.ip_ext_headers.specs.declared.ip_auth_header_slice.IpAuthHeaderSlice.{IpAuthHeaderSlice}
use Rattle.ip_spec.specs.Numbers.{AUTHENTICATION}
use Rattle.ip_spec.specs.Chain.{ExtHeader}
use Rattle.ip_spec.specs.Demand.{AtMostOneOf}
use Rattle.ip_spec.proofs.UnderLemmas.{some_longest_under}
use Rattle.ip_spec.proofs.DemandKinds.{at_most_one_of}

-- There is always exactly one: this is it. Only `IsLongestUnder (AtMostOneOf AUTHENTICATION)` is known about it.
abbrev pub longest_ipv4_chain : ℕ → List ℕ → List ExtHeader
longest_ipv4_chain n s = (some_longest_under (AtMostOneOf AUTHENTICATION) (at_most_one_of AUTHENTICATION) n s).0

-- the chain of an authentication header, or of none
abbrev pub authentication_chain : Option IpAuthHeaderSlice → List ExtHeader
authentication_chain o = option_map_or (λ h. record { number = AUTHENTICATION; bytes = bytes h } ∷ []) o []
