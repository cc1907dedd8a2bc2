use Rattle.ip_spec.proofs.Common.{rules}
use Rattle.ip_dissect.proofs.DissectedLemmas.{base_some4, begun4}
use Rattle.ip_dissect.proofs.visit.visit_ipv4.Goals as goal

pub invariant_of-visit_plain : goal.invariant_of-visit_plain
invariant_of-visit_plain g c = search (rules, base_some4, begun4)

pub visit_plain-requires : goal.visit_plain-requires
visit_plain-requires g c = search (rules, begun4)

pub slow_ipv4-requires : goal.slow_ipv4-requires
slow_ipv4-requires g c = search (rules, base_some4, begun4)

pub returns-in-Some : goal.returns-in-Some
returns-in-Some g c = search (rules, begun4)

pub returns-in-None : goal.returns-in-None
returns-in-None g c = search (rules, begun4)
