use Rattle.std.proofs.Common.{refl, Some}
use Rattle.ip_filter.specs.Frames.{meets_in}
use Rattle.ip_filter.proofs.ProgramLemmas.{led_on, led_back}
use Rattle.ip_filter.proofs.framed.run_by_frame.Goals as goal

pub tests-init : goal.tests-init
tests-init c = refl

pub tests-preserved : goal.tests-preserved
tests-preserved c = led_on (meets_in c.args.frame.now (Some c.args.packet.now)) c.args.tests.now c.tests.next c.in-Some.after _ c.tests-test.true c.in-Some.ensures c.if-after-next.false c.tests.invariant

pub returns-then-after-next : goal.returns-then-after-next
returns-then-after-next c = led_back (meets_in c.args.frame.now (Some c.args.packet.now)) c.args.tests.now c.tests.next c.in-Some.after _ c.tests-test.true c.in-Some.ensures c.if-after-next.true c.requires c.tests.invariant
