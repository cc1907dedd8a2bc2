use Rattle.ip_defragmenter_laws.proofs.CallLemmas.{valid_run}
use Rattle.ip_defragmenter_laws.proofs.run_laws.tables_stay_valid.Goals as goal

pub returns : goal.returns
returns c = λ settings start end calls fresh run. let valid = valid_run settings start calls end fresh run in (valid.free, valid.used, valid.holds)
