use Rattle.ip_spec.proofs.RunsLemmas.{first_is_longest, last_is_free, others_follow}
use Rattle.ip_spec.proofs.runs_laws.runs_are_longest_fitting_chains.Goals as goal

pub returns : goal.returns
returns c = record {
  first = λ n s d p ps l. first_is_longest n s d p l ps;
  last = λ n s d p l. last_is_free n s d p l;
  others = λ n s d p q ps l. others_follow n s d p l q ps;
}
