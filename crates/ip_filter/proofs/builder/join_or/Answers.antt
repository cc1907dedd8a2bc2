use Rattle.ip_filter.proofs.OperatorLemmas.{or_joins, no_or_joins}
use Rattle.ip_filter.proofs.builder.join_or.Goals as goal

pub returns-then-waits : goal.returns-then-waits
returns-then-waits c = or_joins c.args.waits c.args.to.now c.join.new.self c.if-waits.true c.join.ensures

pub returns-else-waits : goal.returns-else-waits
returns-else-waits c = no_or_joins c.args.waits c.args.to.now c.if-waits.false
