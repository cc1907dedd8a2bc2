use Rattle.ip_spec.proofs.Common.{items_from_collect}
use Rattle.ip_ext_chains.proofs.RunLemmas.{runs_yield}
use Rattle.check_uses.proofs.runs.list_runs.Goals as goal

pub returns : goal.returns
returns c = items_from_collect _ c.collect.ensures.ran (runs_yield _ _ c.new.ensures.values)
