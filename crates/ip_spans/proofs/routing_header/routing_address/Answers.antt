use Rattle.ip_spec.proofs.Common.{rules}
use Rattle.ip_spans.proofs.RoutingLemmas.{no_layout, too_few}
use Rattle.ip_spans.proofs.routing_header.routing_address.Goals as goal

pub returns-in_default-of-clause-none : goal.returns-in_default-of-clause-none
returns-in_default-of-clause-none c = no_layout _ _ _ c.in-Ok.ensures.header c.in-Ok.ensures.prefix c.in_default-of.ensures.none

pub returns-in-None-clause-none : goal.returns-in-None-clause-none
returns-in-None-clause-none c = too_few _ _ _ c.in-Ok.ensures.header c.in-Ok.ensures.prefix _ (search (rules, c.type_inv.bytes 4)) c.in-Some.ensures.layout c.in-None.ensures.none
