use Rattle.ip_dissect.specs.Dissection.{dissected}
use Rattle.ip_filter.specs.Tests.{meets}
use Rattle.ip_filter.proofs.ProgramLemmas.{led_on, led_back}
use Rattle.ip_filter.proofs.run.run_stored.Goals as goal

pub tests-preserved : goal.tests-preserved
tests-preserved c = led_on (λ x. meets x (dissected c.args.facts.now.packet.bytes.now)) c.args.tests.now c.tests.next c.next_index-after.result _ c.tests-test.true (rw c.is_met.ensures at c.next_index-after.ensures) c.if-after-next.false c.tests.invariant

pub returns-then-after-next : goal.returns-then-after-next
returns-then-after-next c = led_back (λ x. meets x (dissected c.args.facts.now.packet.bytes.now)) c.args.tests.now c.tests.next c.next_index-after.result _ c.tests-test.true (rw c.is_met.ensures at c.next_index-after.ensures) c.if-after-next.true c.requires.few c.tests.invariant
