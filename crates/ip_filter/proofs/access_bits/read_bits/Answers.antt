use Rattle.ip_spec.proofs.Common.{rules}
use Rattle.ip_filter.proofs.AccessLemmas.{other_bits}
use Rattle.ip_filter.proofs.access_bits.read_bits.Goals as goal

pub returns-in-None-clause-err : goal.returns-in-None-clause-err
returns-in-None-clause-err c = rw c.unexpected.ensures (other_bits _ c.in-Ok.word c.in-Ok.ensures.ok (search rules) c.in-None.ensures)
