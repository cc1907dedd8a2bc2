use Rattle.ip_reassembly.proofs.Common.{Bool, ◌∙◌, ap, sym, leb, ltb, eqb, ◌&&◌, cond, first_mark, mark_by}
use Rattle.ip_reassembly.proofs.RunLemmas.{longer_marks, longer_unused, marked_after, still_unused}
use Rattle.ip_reassembly.proofs.marks.mark_by_run.Goals as goal

pub returns-in-Some-clause-marks : goal.returns-in-Some-clause-marks
returns-in-Some-clause-marks c = λ free i.
    longer_marks c.args.run c.in-Some.longer c.args.marks.now c.args.first c.args.end i c.requires.ordered c.in-Some.ensures.1
    ∙ ap (λ (more : Bool). cond (leb c.args.first i && ltb i c.args.end) (cond (eqb i c.args.first) (first_mark more) 3) (mark_by c.args.run c.args.marks.now i)) (sym c.in-Some.ensures.0)

pub returns-in-Some-clause-unused : goal.returns-in-Some-clause-unused
returns-in-Some-clause-unused c = λ free unused i. longer_unused c.args.run c.in-Some.longer c.args.marks.now c.args.first c.args.end i c.requires.ordered c.in-Some.ensures.1 free unused

pub returns-in-None-clause-marks : goal.returns-in-None-clause-marks
returns-in-None-clause-marks c = λ free i. marked_after c.args.run c.args.marks.now c.mark.new.marks c.args.first c.args.end (first_mark c.args.more) i free (c.mark.ensures i)

pub returns-in-None-clause-unused : goal.returns-in-None-clause-unused
returns-in-None-clause-unused c = λ free unused i. still_unused c.args.run c.args.marks.now c.mark.new.marks c.args.first c.args.end (first_mark c.args.more) i free unused (c.mark.ensures i)
