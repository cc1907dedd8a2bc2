use Rattle.ip_filter.proofs.OperandLemmas.{and_joins, no_and_joins}
use Rattle.ip_filter.proofs.builder.join_and.Goals as goal

pub returns-then-waits : goal.returns-then-waits
returns-then-waits c = and_joins c.args.waits c.args.to.now c.join.new.self c.if-waits.true c.join.ensures

pub returns-else-waits : goal.returns-else-waits
returns-else-waits c = no_and_joins c.args.waits c.args.to.now c.if-waits.false
