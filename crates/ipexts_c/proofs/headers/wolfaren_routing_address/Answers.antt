use Rattle.std.proofs.Common.{subst}
use Rattle.std.specs.Prelude.{IfNone}
use Rattle.ip_spans.specs.RoutingFields.{HasNoAddress}
use Rattle.ipexts_c.proofs.headers.wolfaren_routing_address.Goals as goal

pub returns-clause-none : goal.returns-clause-none
returns-clause-none c = λ refused. subst (λ x. IfNone x (HasNoAddress c.args.bytes.now c.args.index)) (c.put_some.ensures.none refused).0 c.routing_address.ensures.none
