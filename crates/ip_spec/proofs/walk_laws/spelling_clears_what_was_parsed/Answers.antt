use Rattle.ip_spec.proofs.SpellingLemmas.{spelled_is_cleared}
use Rattle.ip_spec.proofs.walk_laws.spelling_clears_what_was_parsed.Goals as goal

pub returns : goal.returns
returns c = λ v f s read spelled l bytes value x. spelled_is_cleared v f read spelled l.has.0.chain l.has.1 bytes value x
