use Rattle.ip_reassembly.proofs.ByteMarkLemmas.{marked_in}
use Rattle.ip_reassembly.proofs.marks.mark_in.Goals as goal

pub returns-clause-marks : goal.returns-clause-marks
returns-clause-marks c = λ i. marked_in c.args.marks.now c.args.index c.args.first c.args.end c.later_marks.result i c.requires.index c.requires.within c.later_marks.ensures
