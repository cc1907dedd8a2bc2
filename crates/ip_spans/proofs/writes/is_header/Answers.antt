use Rattle.ip_spec.proofs.Common.{rules}
use Rattle.ip_spans.proofs.WrittenLemmas.{none_at_end}
use Rattle.ip_spans.proofs.writes.is_header.Goals as goal

pub returns-in-None : goal.returns-in-None
returns-in-None c = (λ f. search rules, λ header. absurd (none_at_end _ _ c.in-None.ensures.end header))
