use Rattle.ip_spec.proofs.Common.{rules, sym, arith}
use Rattle.ipexts_tool.proofs.NumberLemmas.{decimal_of-some, decimal_of-none}
use Rattle.check_reference.proofs.answers.plain_number.Goals as goal

pub returns-then-eq : goal.returns-then-eq
returns-then-eq c = sym (decimal_of-some c.args.text.now c.loop-number.number-counter (search rules) (search rules))

pub returns : goal.returns
returns c = sym (decimal_of-none c.args.text.now (λ n below e. c.loop-number.invariant n (omega arith) e))
