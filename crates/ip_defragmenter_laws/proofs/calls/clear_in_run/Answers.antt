use Rattle.std.proofs.Common.{refl}
use Rattle.ip_defragmenter_laws.proofs.calls.clear_in_run.Goals as goal

pub returns-clause-call : goal.returns-clause-call
returns-clause-call c = λ cleared memories. record { packets = c.clear.ensures.cleared cleared; len = c.clear.ensures.len; memories = refl }
