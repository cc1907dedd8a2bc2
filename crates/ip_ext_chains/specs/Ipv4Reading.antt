-- The result of a read of IPv4 extension headers.
use Rattle.std.specs.Prelude.{ℕ, List, Option, None}
use Rattle.ip_spec.specs.Fields.{AuthFields}
use Rattle.ip_ext_chains.specs.Ipv4Parse.{IsIpv4Answer, ipv4_value}

-- from number n at the start of bytes s, the headers v lead to m and leave r, without an error
abbrev pub Answers : ℕ → Option AuthFields → ℕ → List ℕ → List ℕ → Type 0
Answers n v m s r = IsIpv4Answer ipv4_value n s v m r None
