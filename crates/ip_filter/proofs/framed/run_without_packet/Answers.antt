use Rattle.ip_spec.proofs.Common.{None, refl}
use Rattle.ip_filter.specs.Frames.{meets_in}
use Rattle.ip_filter.proofs.ProgramLemmas.{led_on, led_back, at_the_end}
use Rattle.ip_filter.proofs.framed.run_without_packet.Goals as goal

pub tests-init : goal.tests-init
tests-init c = refl

pub tests-preserved : goal.tests-preserved
tests-preserved c = led_on (meets_in c.args.frame.now None) c.args.tests.now c.tests.next c.next_index-after.result _ c.tests-test.true (rw c.is_met_without_packet.ensures at c.next_index-after.ensures) c.if-after-next.false c.tests.invariant

pub returns-then-after-next : goal.returns-then-after-next
returns-then-after-next c = led_back (meets_in c.args.frame.now None) c.args.tests.now c.tests.next c.next_index-after.result _ c.tests-test.true (rw c.is_met_without_packet.ensures at c.next_index-after.ensures) c.if-after-next.true c.requires c.tests.invariant

pub returns : goal.returns
returns c = at_the_end (meets_in c.args.frame.now None) c.args.tests.now c.tests.next c.tests-test.false c.tests.invariant
