-- Equality of structs of headers: equality of the fields in each place.
use Rattle.std.specs.Prelude.{Bool, ◌&&◌}
use Rattle.std.specs.Option.{option_eq}
use Rattle.std.specs.Cmp.{IsEquivalence}
use Rattle.std.specs.Cmp.Lexicographic.{options_equiv}
use Rattle.std.proofs.lemmas.Cmp.{and_equiv, on_equiv}
use Rattle.ip_ext_headers.specs.HeaderEqual.{raw_equal, fragment_equal, auth_equal}
use Rattle.ip_ext_headers.proofs.EqualLemmas.{raw_equivalence, fragment_equivalence, auth_equivalence}
use Rattle.ip_ext_chains.specs.declared.ipv6_routing_exts.Ipv6RoutingExtensions.{Ipv6RoutingExtensions}
use Rattle.ip_ext_chains.specs.declared.ipv6_exts.Ipv6Extensions.{Ipv6Extensions}

abbrev pub routing_equal : Ipv6RoutingExtensions → Ipv6RoutingExtensions → Bool
routing_equal a b = raw_equal a.routing b.routing && option_eq raw_equal a.final_destination_options b.final_destination_options

abbrev pub exts_equal : Ipv6Extensions → Ipv6Extensions → Bool
exts_equal a b =
    option_eq raw_equal a.hop_by_hop_options b.hop_by_hop_options
    && (option_eq raw_equal a.destination_options b.destination_options
    && (option_eq routing_equal a.routing b.routing
    && (option_eq fragment_equal a.fragment b.fragment && option_eq auth_equal a.auth b.auth)))

-- all are equivalence relations
pub routing_equivalence : IsEquivalence routing_equal
routing_equivalence =
    and_equiv (on_equiv (λ v. v.routing) raw_equivalence)
    (on_equiv (λ v. v.final_destination_options) (options_equiv raw_equivalence))

pub exts_equivalence : IsEquivalence exts_equal
exts_equivalence =
    and_equiv (on_equiv (λ v. v.hop_by_hop_options) (options_equiv raw_equivalence))
    (and_equiv (on_equiv (λ v. v.destination_options) (options_equiv raw_equivalence))
    (and_equiv (on_equiv (λ v. v.routing) (options_equiv routing_equivalence))
    (and_equiv (on_equiv (λ v. v.fragment) (options_equiv fragment_equivalence))
    (on_equiv (λ v. v.auth) (options_equiv auth_equivalence)))))
