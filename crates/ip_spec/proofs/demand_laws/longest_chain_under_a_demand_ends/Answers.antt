use Rattle.ip_spec.proofs.Common.{Passes}
use Rattle.ip_spec.proofs.UnderLemmas.{longest_ends_under}
use Rattle.ip_spec.proofs.demand_laws.longest_chain_under_a_demand_ends.Goals as goal

pub returns : goal.returns
returns c = λ q. longest_ends_under (Passes q)
