use Rattle.ip_reassembly.proofs.Common.{eqb-true, eq-eqb}
use Rattle.ip_reassembly.proofs.ByteMarkLemmas.{free_in, in_free}
use Rattle.ip_reassembly.proofs.marks.are_free_in.Goals as goal

pub returns : goal.returns
returns c = (
  λ none. free_in c.args.marks.now c.args.index c.args.first c.args.end c.later_marks.result c.requires.within c.later_marks.ensures (eqb-true _ 0 none),
  λ free. eq-eqb _ 0 (in_free c.args.marks.now c.args.index c.args.first c.args.end c.later_marks.result c.requires.within c.later_marks.ensures free),
)
