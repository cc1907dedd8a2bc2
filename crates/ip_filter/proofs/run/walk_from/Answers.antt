use Rattle.ip_spec.proofs.Common.{ap, sym, subst, ◌∙◌}
use Rattle.ip_dissect.specs.Dissection.{dissected}
use Rattle.ip_filter.specs.Reached.{IsLedTo}
use Rattle.ip_filter.specs.Tests.{meets}
use Rattle.ip_filter.specs.Program.{passes}
use Rattle.ip_filter.proofs.run.walk_from.Goals as goal

pub run_on_packet-requires-clause-led : goal.run_on_packet-requires-clause-led
run_on_packet-requires-clause-led c = subst (λ s. IsLedTo c.args.tests.now (λ x. meets x (dissected s)) c.args.first) (sym c.walk-packet.ensures.bytes) c.requires.led

pub returns : goal.returns
returns c = c.run_on_packet.ensures ∙ ap (λ s. passes c.args.tests.now (λ x. meets x (dissected s))) c.walk-packet.ensures.bytes
