-- What tests ask of a packet.
use Rattle.std.specs.Prelude.{ℕ, Option, None, Some}
use Rattle.ip_spec.specs.Numbers.{NO_NEXT_HEADER}
use Rattle.ip_base.specs.Ipv4Header.{protocol}
use Rattle.ip_base.specs.Ipv6Header.{ipv6_next_header}
use Rattle.ip_base.specs.Ipv4HeaderSlice as ipv4_header
use Rattle.ip_base.specs.Ipv6HeaderSlice as ipv6_header
use Rattle.ip_dissect.specs.declared.dissection.BaseHeader.{BaseHeader}
use Rattle.ip_dissect.specs.declared.dissection.BaseHeader.TheVariants.{Ipv4, Ipv6}

-- the number after a base header
abbrev pub number_after : Option BaseHeader → ℕ
number_after None = NO_NEXT_HEADER
number_after (Some (Ipv4 h)) = protocol (ipv4_header.bytes h)
number_after (Some (Ipv6 h)) = ipv6_next_header (ipv6_header.bytes h)
