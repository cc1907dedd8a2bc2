use Rattle.ip_spec.proofs.RunsLemmas.{some_runs, one_runs}
use Rattle.ip_spec.proofs.runs_laws.one_list_of_runs.Goals as goal

pub returns : goal.returns
returns c = record { some = some_runs; only = one_runs }
