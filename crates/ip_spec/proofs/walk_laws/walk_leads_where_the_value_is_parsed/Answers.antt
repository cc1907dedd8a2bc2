use Rattle.ip_spec.proofs.SpellingLemmas.{leads_parsed, parsed_leads, leads_spelled, spelled_leads}
use Rattle.ip_spec.proofs.walk_laws.walk_leads_where_the_value_is_parsed.Goals as goal

pub returns : goal.returns
returns c = record { read = λ v e f m. (leads_parsed v f e m.0, λ r. parsed_leads v f m.0 r.0 r.1); spelled = λ v f m. leads_spelled v f m.0; spelling = spelled_leads }
