use Rattle.ip_spec.proofs.Common.{arith}
use Rattle.check_uses.proofs.FirstLemmas.{all_consumed, enough_consumed, first_are_longest}
use Rattle.check_uses.proofs.chains.first_headers.Goals as goal

pub returns-in_default-clause-under : goal.returns-in_default-clause-under
returns-in_default-clause-under c =
    first_are_longest c.args.k c.args.start.0 c.args.packet.now _ (all_consumed c.args.k _ _ _ _ c.headers.invariant c.in_default.ensures.steps.0 (omega (arith, c.headers-test.true)))

pub returns-clause-under : goal.returns-clause-under
returns-clause-under c =
    first_are_longest c.args.k c.args.start.0 c.args.packet.now _
    (enough_consumed c.args.k _ _ _ _ c.headers.invariant (omega (arith, c.headers-test.false, c.headers.auto.counter-end)))
