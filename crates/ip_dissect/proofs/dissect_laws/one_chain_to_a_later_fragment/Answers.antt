use Rattle.ip_spec.proofs.UnderLemmas.{one_longest_under}
use Rattle.ip_dissect.specs.LaterDemand.{NothingAfterLater, nothing_after_later}
use Rattle.ip_dissect.proofs.LaterLemmas.{chain_to_later-longest}
use Rattle.ip_dissect.proofs.dissect_laws.one_chain_to_a_later_fragment.Goals as goal

pub returns : goal.returns
returns c = record {
  demand = nothing_after_later;
  some = chain_to_later-longest;
  only = λ n s d l. one_longest_under NothingAfterLater nothing_after_later n s d _ l (chain_to_later-longest n s);
}
