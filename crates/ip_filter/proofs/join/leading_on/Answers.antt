use Rattle.ip_filter.specs.Formula.{truth}
use Rattle.ip_filter.specs.Compiled.{subject_holds}
use Rattle.ip_filter.proofs.JoinLemmas.{turned}
use Rattle.ip_filter.proofs.join.leading_on.Goals as goal

pub returns-then-is_and : goal.returns-then-is_and
returns-then-is_and c = λ subject g leads. rw c.if-is_and.true (turned subject c.args.next 65 c.args.test.now c.redirected.result (truth g (subject_holds subject)) c.redirected.ensures leads)

pub returns-else-is_and : goal.returns-else-is_and
returns-else-is_and c = λ subject g leads. rw c.if-is_and.false (turned subject 64 c.args.next c.args.test.now c.redirected-else-is_and.result (truth g (subject_holds subject)) c.redirected-else-is_and.ensures leads)
