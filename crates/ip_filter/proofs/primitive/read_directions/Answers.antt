use Rattle.ip_spec.proofs.Common.{rules, arith, common_steps, nat_tests}
use Rattle.ip_filter.proofs.QualifierLemmas.{side_before_end, side_before_other, or_sides_read, or_side_missing, and_sides_read, and_side_missing, sides_long}
use Rattle.ip_filter.proofs.primitive.read_directions.Goals as goal

pub returns-in_default-clause-ok : goal.returns-in_default-clause-ok
returns-in_default-clause-ok c first named = side_before_end first c.args.direction named c.args.terms c.args.text.now c.in_default.ensures.none

pub returns-in-Ok-clause-ok : goal.returns-in-Ok-clause-ok
returns-in-Ok-clause-ok c first named =
    or_sides_read first c.args.direction named c.args.terms c.args.text.now c.in-Some.operator c.in-Some.ensures.some (search rules) c.in-Ok.read.0 c.in-Ok.read.1.now c.in-Ok.ensures.ok

pub returns-in-Err-clause-err : goal.returns-in-Err-clause-err
returns-in-Err-clause-err c first named =
    or_side_missing first c.args.direction named c.args.terms c.args.text.now c.in-Some.operator c.in-Some.ensures.some (search rules) _ _ c.in-Err.ensures.err

pub returns-then-not-is_and-clause-ok : goal.returns-then-not-is_and-clause-ok
returns-then-not-is_and-clause-ok c first named =
    side_before_other first c.args.direction named c.args.terms c.args.text.now c.in-Some.operator c.in-Some.ensures.some (search rules) (search rules)

pub returns-then-terms-clause-err : goal.returns-then-terms-clause-err
returns-then-terms-clause-err c first named =
    rw c.unexpected.ensures (sides_long first c.args.direction named c.args.terms c.args.text.now c.in-Some.operator c.in-Some.ensures.some
    (grind (arith, common_steps, nat_tests, c.if-terms.true)) (search rules) (search rules))

pub returns-in-Ok-read_other_side-clause-ok : goal.returns-in-Ok-read_other_side-clause-ok
returns-in-Ok-read_other_side-clause-ok c first named =
    and_sides_read first c.args.direction named c.args.terms c.args.text.now c.in-Some.operator c.in-Some.ensures.some (search rules) (search rules)
    (grind (arith, common_steps, nat_tests, c.if-terms.false)) c.in-Ok-read_other_side.read.0 c.in-Ok-read_other_side.read.1.now c.in-Ok-read_other_side.ensures.ok

pub returns-in-Err-read_other_side-clause-err : goal.returns-in-Err-read_other_side-clause-err
returns-in-Err-read_other_side-clause-err c first named =
    and_side_missing first c.args.direction named c.args.terms c.args.text.now c.in-Some.operator c.in-Some.ensures.some (search rules) (search rules)
    (grind (arith, common_steps, nat_tests, c.if-terms.false)) _ _ c.in-Err-read_other_side.ensures.err
