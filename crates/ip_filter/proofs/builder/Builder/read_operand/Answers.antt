use Rattle.ip_spec.proofs.Common.{rules, arith, nat_tests}
use Rattle.ip_filter.proofs.MoveLemmas.{not_read, open_read, no_more_groups, primitive_refused, primitive_read}
use Rattle.ip_filter.proofs.builder.Builder.read_operand.Goals as goal

pub returns-then-is_not-clause-ok : goal.returns-then-is_not-clause-ok
returns-then-is_not-clause-ok c = not_read c.args.self.now c.args.word c.saturating_add-self.result (search rules) c.saturating_add-self.ensures

pub returns-then-is_full-clause-err : goal.returns-then-is_full-clause-err
returns-then-is_full-clause-err c = rw c.unexpected.ensures (no_more_groups c.args.self.now c.args.word (search rules) (grind (arith, nat_tests, c.is_full.ensures.value)))

pub returns-then-eq-clause-ok : goal.returns-then-eq-clause-ok
returns-then-eq-clause-ok c = open_read c.args.self.now c.args.word c.push.new.self c.default-self.result (search rules) c.push.ensures.items (search rules) (grind (arith, nat_tests, c.is_full.ensures.value, c.is_full.ensures.fits))

pub returns-in-Err-clause-err : goal.returns-in-Err-clause-err
returns-in-Err-clause-err c = primitive_refused c.args.self.now c.args.word (search rules) (search rules) _ _ c.in-Err.ensures.err

pub returns-in-Ok-clause-ok : goal.returns-in-Ok-clause-ok
returns-in-Ok-clause-ok c =
    primitive_read c.args.self.now c.args.word (search rules) (search rules) c.in-Ok.primitive c.in-Ok.rest.now c.add.new.self c.end_operand.new.self c.in-Ok.ensures.ok c.add.ensures c.end_operand.ensures
