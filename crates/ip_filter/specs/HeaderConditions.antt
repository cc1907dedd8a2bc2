-- What tests ask of extension headers.
use Rattle.std.specs.Prelude.{ℕ, Bool, ◌==◌}
use Rattle.ip_spec.specs.Numbers.{ROUTING, FRAGMENT, AUTHENTICATION}
use Rattle.ip_spec.specs.Chain.{ExtHeader}
use Rattle.ip_filter.specs.HeaderFields.{has_spi, has_routing_type, has_segments_left}
use Rattle.ip_filter.specs.Truth.{compares, says_fragment}
use Rattle.ip_filter.specs.declared.header_condition.HeaderCondition.{HeaderCondition}
use Rattle.ip_filter.specs.declared.header_condition.HeaderCondition.TheVariants as asks

-- headers of this number can meet it
abbrev pub is_asked : HeaderCondition → ℕ → Bool
is_asked (asks.SecurityParameters i) n = n == AUTHENTICATION
is_asked (asks.RoutingType t) n = n == ROUTING
is_asked (asks.SegmentsLeft c k) n = n == ROUTING
is_asked (asks.Identification i) n = n == FRAGMENT

-- the header meets it
abbrev pub meets_condition : HeaderCondition → ExtHeader → Bool
meets_condition (asks.SecurityParameters i) h = has_spi i h
meets_condition (asks.RoutingType t) h = has_routing_type t h
meets_condition (asks.SegmentsLeft c k) h = has_segments_left (λ n. compares c n k) h
meets_condition (asks.Identification i) h = says_fragment (λ x. x.identification == i) h
