use Rattle.ip_dissect.proofs.JoinedLemmas.{ipv4_shorter, ipv6_shorter}
use Rattle.ip_dissect.proofs.dissect_laws.truncated_bytes_keep_whole_headers.Goals as goal

pub returns : goal.returns
returns c = record { ipv4 = ipv4_shorter; ipv6 = ipv6_shorter }
