-- What terms ask of one extension header.
use Rattle.std.specs.Prelude.{ℕ, List, drop, Bool, ◌==◌, ◌&&◌, ◌||◌}
use Rattle.std.specs.List.{list_any}
use Rattle.ip_spec.specs.Numbers.{HOP_BY_HOP, ROUTING, AUTHENTICATION, DESTINATION_OPTIONS}
use Rattle.ip_spec.specs.Fields.{auth_fields}
use Rattle.ip_spec.specs.Chain.{ExtHeader}
use Rattle.ip_header_contents.specs.Options.{options_in}
use Rattle.ip_header_contents.specs.Routing.{routing_type, segments_left}

-- hop-by-hop or destination options (RFC 8200, sections 4.3, 4.6), which begin after the length
abbrev pub has_options : ℕ → Bool
has_options n = (n == HOP_BY_HOP) || (n == DESTINATION_OPTIONS)

-- one of the options of a header with bytes b has this type
abbrev pub has_option_type : ℕ → List ℕ → Bool
has_option_type n b = list_any (λ o. o.option_type == n) (options_in (drop 2 b))

-- such a header, with an option of this type
abbrev pub has_option : ℕ → ExtHeader → Bool
has_option n h = has_options h.number && has_option_type n h.bytes

-- an authentication header with this security parameters index
abbrev pub has_spi : ℕ → ExtHeader → Bool
has_spi i h = (h.number == AUTHENTICATION) && ((auth_fields h.bytes).spi == i)

-- a routing header of this type
abbrev pub has_routing_type : ℕ → ExtHeader → Bool
has_routing_type n h = (h.number == ROUTING) && (routing_type h.bytes == n)

-- a routing header of whose segments left this is true
abbrev pub has_segments_left : (ℕ → Bool) → ExtHeader → Bool
has_segments_left q h = (h.number == ROUTING) && q (segments_left h.bytes)
