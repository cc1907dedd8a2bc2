use Rattle.ip_spec.proofs.Common.{err_from_is_err_and}
use Rattle.ip_ext_chains.proofs.ReadErrorLemmas.{layer_refused_error}
use Rattle.ip_ext_chains.proofs.ipv6_exts.Ipv6Extensions.read_limited.Goals as goal

pub returns-in_err-number-clause-fault : goal.returns-in_err-number-clause-fault
returns-in_err-number-clause-fault g c =
    let p = err_from_is_err_and c.from_residual.result c.from_residual.ensures.1 in
    rw (p.1, p.2) (layer_refused_error g.T.ExactRead.bytes_left g.T.ExactRead.is_steady g.T.ExactRead.has_failed _ _ _ _ c.in_err-number.ensures.refused)
