use Rattle.ip_spec.proofs.SpellingLemmas as spelling
use Rattle.ip_spec.proofs.SumLemmas.{bytes_len}
use Rattle.ip_spec.proofs.walk_laws.one_spelling.Goals as goal

pub returns : goal.returns
returns c = record {
  only = spelling.one_spelling;
  alike = spelling.spelled_alike;
  len = λ v f d s. bytes_len v f d s.reachable.chain s.reachable.fits s.value;
}
