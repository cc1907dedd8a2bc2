use Rattle.ip_spec.proofs.Common.{arith, common_steps, nat_tests}
use Rattle.ip_filter.proofs.PrimitiveLemmas.{qualified_read, other_identifier, long_identifier}
use Rattle.ip_filter.proofs.primitive.read_identifier.Goals as goal

pub returns-else-terms-clause-ok : goal.returns-else-terms-clause-ok
returns-else-terms-clause-ok c text x r is lacks =
    let f = c.in-Some.ensures.some in
    qualified_read x c.args.terms text c.args.head r c.args.word is lacks f.0 f.1 c.in-Some.primitive f.2
    (grind (arith, common_steps, nat_tests, c.if-terms.false, c.terms.ensures.count, c.terms.ensures.few))

pub returns-then-terms-clause-err : goal.returns-then-terms-clause-err
returns-then-terms-clause-err c text x r is =
    let f = c.in-Some.ensures.some in
    rw c.unexpected.ensures (long_identifier x c.args.terms text c.args.head r c.args.word is f.0 f.1
    c.in-Some.primitive f.2 (grind (arith, common_steps, nat_tests, c.if-terms.true, c.terms.ensures.count, c.terms.ensures.few)))

pub returns-in-None-clause-err : goal.returns-in-None-clause-err
returns-in-None-clause-err c text x r is =
    rw c.unexpected-in-None.ensures (rw c.wanted.ensures (other_identifier x c.args.terms text c.args.head r c.args.word is c.in-None.ensures.none))
