use Rattle.ip_spec.proofs.Common.{rules}
use Rattle.ip_header_contents.proofs.RoutingLemmas.{others}
use Rattle.ip_header_contents.proofs.routing_layout.compressed_layout.Goals as goal

pub returns-then-left-len-ne0-clause-none : goal.returns-then-left-len-ne0-clause-none
returns-then-left-len-ne0-clause-none c = λ x is. search (rules, others c.args.bytes.now x is)
