use Rattle.ip_filter.proofs.TermLemmas.{no_number, no_comparison}
use Rattle.ip_filter.proofs.parse_term.read_count.Goals as goal

pub returns-in-Err-read_number-clause-err : goal.returns-in-Err-read_number-clause-err
returns-in-Err-read_number-clause-err c = no_number _ _ _ c.in-Ok.ensures.ok _ _ c.in-Err-read_number.ensures.err

pub returns-in-Err-clause-err : goal.returns-in-Err-clause-err
returns-in-Err-clause-err c = no_comparison _ _ _ c.in-Err.ensures.err
