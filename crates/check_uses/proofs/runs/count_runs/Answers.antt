use Rattle.ip_spec.proofs.Common.{◌∙◌, length-map, count_from_yields_List}
use Rattle.ip_ext_chains.proofs.RunLemmas.{runs_yield}
use Rattle.check_uses.proofs.runs.count_runs.Goals as goal

pub returns-clause-exact : goal.returns-clause-exact
returns-clause-exact c =
    count_from_yields_List _ _ c.count.ensures.ran (runs_yield _ _ c.new.ensures.values) ∙ length-map _ _
