use Rattle.ip_spec.proofs.SpellingLemmas.{spelled_is_parsed}
use Rattle.ip_spec.proofs.walk_laws.spelled_bytes_are_parsed.Goals as goal

pub returns : goal.returns
returns c = spelled_is_parsed
