use Rattle.ip_filter.proofs.OperatorLemmas.{group_closed}
use Rattle.ip_filter.proofs.builder.Builder.close.Goals as goal

pub returns : goal.returns
returns c = group_closed c.args.self.now c.args.outer c.join_or.new.to c.end_operand.new.self c.join_or.ensures c.end_operand.ensures
