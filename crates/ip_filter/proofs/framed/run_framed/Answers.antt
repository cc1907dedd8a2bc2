use Rattle.ip_spec.proofs.Common.{Some}
use Rattle.ip_filter.specs.Frames.{meets_in}
use Rattle.ip_filter.proofs.ProgramLemmas.{led_on, led_back}
use Rattle.ip_filter.proofs.framed.run_framed.Goals as goal

pub tests-preserved : goal.tests-preserved
tests-preserved c = led_on (meets_in c.args.frame.now (Some c.args.facts.now.packet.bytes.now)) c.args.tests.now c.tests.next c.next_index-after.result _ c.tests-test.true (rw c.is_met_in.ensures at c.next_index-after.ensures) c.if-after-next.false c.tests.invariant

pub returns-then-after-next : goal.returns-then-after-next
returns-then-after-next c = led_back (meets_in c.args.frame.now (Some c.args.facts.now.packet.bytes.now)) c.args.tests.now c.tests.next c.next_index-after.result _ c.tests-test.true (rw c.is_met_in.ensures at c.next_index-after.ensures) c.if-after-next.true c.requires.few c.tests.invariant
