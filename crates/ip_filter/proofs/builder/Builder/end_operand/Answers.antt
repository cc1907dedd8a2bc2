use Rattle.ip_filter.proofs.OperandLemmas.{operand_ended}
use Rattle.ip_filter.proofs.builder.Builder.end_operand.Goals as goal

pub returns : goal.returns
returns c = operand_ended c.args.self.now c.negate_last.new.self c.join_and.new.to c.negate_last.ensures c.join_and.ensures
