use Rattle.std.proofs.Common.{refl, false}
use Rattle.ip_filter.proofs.ProgramLemmas.{led_on, led_back, at_the_end}
use Rattle.ip_filter.proofs.other_frames.run_other.Goals as goal

pub tests-init : goal.tests-init
tests-init c = refl

pub tests-preserved : goal.tests-preserved
tests-preserved c = led_on (λ x. false) c.args.tests.now c.tests.next c.from-after.result _ c.tests-test.true c.from-after.ensures c.if-after-next.false c.tests.invariant

pub returns-then-after-next : goal.returns-then-after-next
returns-then-after-next c = led_back (λ x. false) c.args.tests.now c.tests.next c.from-after.result _ c.tests-test.true c.from-after.ensures c.if-after-next.true c.requires c.tests.invariant

pub returns : goal.returns
returns c = at_the_end (λ x. false) c.args.tests.now c.tests.next c.tests-test.false c.tests.invariant
