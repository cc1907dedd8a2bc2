use Rattle.ip_spec.proofs.Common.{Passes}
use Rattle.ip_spec.proofs.ShorterLemmas.{longest_shorter}
use Rattle.ip_spec.proofs.demand_laws.shorter_bytes_keep_whole_headers.Goals as goal

pub returns : goal.returns
returns c = λ q. longest_shorter (Passes q)
