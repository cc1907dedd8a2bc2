use Rattle.ip_filter.proofs.TermLemmas.{compared_refused, segments_left_refused}
use Rattle.ip_filter.proofs.parse_term.read_term.Goals as goal

pub returns-in-Err-clause-err : goal.returns-in-Err-clause-err
returns-in-Err-clause-err c = rw c.in-Compared.is (compared_refused _ _ _ _ c.in-Err.ensures.err)

pub returns-in-Err-read_count-clause-err : goal.returns-in-Err-read_count-clause-err
returns-in-Err-read_count-clause-err c = rw c.in-SegmentsLeft.is (segments_left_refused _ _ _ c.in-Err-read_count.ensures.err)
