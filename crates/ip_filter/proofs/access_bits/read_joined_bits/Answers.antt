use Rattle.ip_filter.proofs.AccessLemmas.{joined_end, joined_refused}
use Rattle.ip_filter.proofs.access_bits.read_joined_bits.Goals as goal

pub returns-then-ends-clause-ok : goal.returns-then-ends-clause-ok
returns-then-ends-clause-ok c = joined_end _ _ _ c.names.invariant _ _ _ c.in-Ok.ensures.ok c.if-ends.true

pub returns-in-Err-clause-err : goal.returns-in-Err-clause-err
returns-in-Err-clause-err c = joined_refused _ _ _ c.names.invariant _ _ c.in-Err.ensures.err
