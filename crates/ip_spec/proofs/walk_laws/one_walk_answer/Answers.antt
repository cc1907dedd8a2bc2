use Rattle.ip_spec.proofs.WalkLemmas.{one_reach}
use Rattle.ip_spec.proofs.SpellingLemmas.{one_answer}
use Rattle.ip_spec.proofs.SumLemmas.{some_reach, some_answer}
use Rattle.ip_spec.proofs.walk_laws.one_walk_answer.Goals as goal

pub returns : goal.returns
returns c = record { some_reach = λ v e f. some_reach v f e; only_reach = one_reach; some_answer = λ v e f. some_answer v f e; only_answer = one_answer }
