use Rattle.ip_spec.proofs.Common.{Passes}
use Rattle.ip_spec.proofs.UnderLemmas.{longest_keeps, kept_is_longest}
use Rattle.ip_spec.proofs.demand_laws.demand_keeps_its_longest_chain.Goals as goal

pub returns : goal.returns
returns c = record { longest = λ q. longest_keeps (Passes q); only = λ q. kept_is_longest (Passes q) }
