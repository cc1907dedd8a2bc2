use Rattle.ip_spec.proofs.Common.{rules, arith, nat_tests, common_steps}
use Rattle.ip_filter.proofs.OperatorLemmas.{and_read, or_read, no_more_terms, no_operator, no_operator_or_close, closed}
use Rattle.ip_filter.proofs.builder.Builder.read_operator.Goals as goal

pub returns-then-is_and-clause-ok : goal.returns-then-is_and-clause-ok
returns-then-is_and-clause-ok c = and_read c.args.self.now c.args.word (search rules) c.if-self-ge-MAX_TERMS.false

pub returns-then-is_or-clause-ok : goal.returns-then-is_or-clause-ok
returns-then-is_or-clause-ok c = or_read c.args.self.now c.args.word c.join_or.new.to (search rules) c.if-self-ge-MAX_TERMS-2.false c.join_or.ensures

pub returns-in-Some-clause-ok : goal.returns-in-Some-clause-ok
returns-in-Some-clause-ok c = closed c.args.self.now c.args.word c.pop.new.self c.in-Some.outer c.close.new.self (search rules) c.in-Some.ensures.items c.close.ensures

pub returns-in-None-clause-err : goal.returns-in-None-clause-err
returns-in-None-clause-err c =
    rw c.unexpected-in-None.ensures (no_operator c.args.self.now c.args.word (search rules) (search rules) (grind (arith, common_steps, nat_tests, c.in-None.ensures.variant)))

pub returns-then-is_empty-clause-err : goal.returns-then-is_empty-clause-err
returns-then-is_empty-clause-err c =
    rw c.unexpected-then-is_empty.ensures (no_operator c.args.self.now c.args.word (search rules) (search rules) (grind (arith, nat_tests, c.is_empty.ensures)))

pub returns-clause-err : goal.returns-clause-err
returns-clause-err c =
    rw c.unexpected-2.ensures (no_operator_or_close c.args.self.now c.args.word (search rules) (search rules) (search rules) (grind (arith, nat_tests, c.is_empty.ensures)))

pub returns-then-self-ge-MAX_TERMS-clause-err : goal.returns-then-self-ge-MAX_TERMS-clause-err
returns-then-self-ge-MAX_TERMS-clause-err c = rw c.unexpected.ensures (no_more_terms c.args.self.now c.args.word (search rules) c.if-self-ge-MAX_TERMS.true)

pub returns-then-self-ge-MAX_TERMS-2-clause-err : goal.returns-then-self-ge-MAX_TERMS-2-clause-err
returns-then-self-ge-MAX_TERMS-2-clause-err c =
    rw c.unexpected-then-self-ge-MAX_TERMS-2.ensures (no_more_terms c.args.self.now c.args.word (search rules) c.if-self-ge-MAX_TERMS-2.true)
