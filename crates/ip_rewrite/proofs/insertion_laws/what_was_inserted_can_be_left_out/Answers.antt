use Rattle.ip_rewrite.proofs.AcceptedLemmas.{accepts}
use Rattle.ip_rewrite.proofs.RestoringLemmas.{restores}
use Rattle.ip_rewrite.proofs.RestatedLemmas.{restated4, restated6}
use Rattle.ip_rewrite.proofs.insertion_laws.what_was_inserted_can_be_left_out.Goals as goal

pub returns-clause-accepted : goal.returns-clause-accepted
returns-clause-accepted c = λ s a i room h e. accepts a i h room s e

pub returns-clause-left_out : goal.returns-clause-left_out
returns-clause-left_out c = λ s a i room h e. restores a i h room s e

pub returns-clause-ipv6 : goal.returns-clause-ipv6
returns-clause-ipv6 c = λ s bytes whole six. restated6 s bytes whole six

pub returns-clause-ipv4 : goal.returns-clause-ipv4
returns-clause-ipv4 c = λ s bytes whole four stated right. restated4 s bytes whole four stated right
