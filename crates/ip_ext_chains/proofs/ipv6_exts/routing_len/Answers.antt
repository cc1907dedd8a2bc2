use Rattle.ip_spec.proofs.Common.{ap, sym, ◌∙◌, subst, inl, inr, refl, option_map, same_Some, ROUTING, ExtHeader, HeaderFields, raw_header, IsEncoded}
use Rattle.ip_ext_chains.specs.declared.ipv6_routing_exts.Ipv6RoutingExtensions.{Ipv6RoutingExtensions}
use Rattle.ip_ext_chains.proofs.ipv6_exts.routing_len.Goals as goal

pub returns-in-Some-clause-routing : goal.returns-in-Some-clause-routing
returns-in-Some-clause-routing c = λ x e.
    let E : HeaderFields → Type 0 = λ y. (h : ExtHeader) × IsEncoded ROUTING y h in
    subst E (same_Some _ x (sym (ap (option_map (λ (r : Ipv6RoutingExtensions). raw_header r.routing)) c.in-Some.is) ∙ e)) (c.header_len.ensures.encodable ROUTING (inr (inl refl)))
