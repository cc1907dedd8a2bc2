use Rattle.ip_spec.proofs.Common.{Passes}
use Rattle.ip_spec.proofs.UnderLemmas.{some_longest_under, one_longest_under}
use Rattle.ip_spec.proofs.demand_laws.one_longest_chain_under_a_demand.Goals as goal

pub returns : goal.returns
returns c = record { some = λ q. some_longest_under (Passes q); only = λ q. one_longest_under (Passes q) }
