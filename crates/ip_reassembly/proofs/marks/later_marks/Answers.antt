use Rattle.ip_reassembly.proofs.ByteMarkLemmas.{ordered_bits}
use Rattle.ip_reassembly.proofs.marks.later_marks.Goals as goal

pub overflow_sub-result : goal.overflow_sub-result
overflow_sub-result c = ordered_bits c.args.first c.args.end c.requires.ordered c.requires.within
