use Rattle.ip_ext_chains.proofs.ReadErrorLemmas.{refused_error}
use Rattle.ip_ext_chains.proofs.ipv6_exts.Ipv6Extensions.read.Goals as goal

pub returns-in-Err-clause-fault : goal.returns-in-Err-clause-fault
returns-in-Err-clause-fault g c = refused_error g.T.ExactRead.bytes_left g.T.ExactRead.is_steady g.T.ExactRead.has_failed c.in-Err.e _ _ _ c.in-Err.ensures.refused
