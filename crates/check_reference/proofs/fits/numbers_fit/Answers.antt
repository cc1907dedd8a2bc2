use Rattle.ip_spec.proofs.Common.{rules}
use Rattle.check_reference.proofs.FitsLemmas.{told_by_counts}
use Rattle.check_reference.proofs.fits.numbers_fit.Goals as goal

pub returns-then-how_often_before-le1 : goal.returns-then-how_often_before-le1
returns-then-how_often_before-le1 c = told_by_counts _ (search rules)

pub returns-else-how_often_before-le1 : goal.returns-else-how_often_before-le1
returns-else-how_often_before-le1 c = told_by_counts _ (search rules)
