use Rattle.ip_filter.proofs.TestLemmas.{by_bytes_of_version, by_bytes_of_protocol}
use Rattle.ip_filter.proofs.filter.Test.of_access.Goals as goal

pub returns-in-Base-clause-meets : goal.returns-in-Base-clause-meets
returns-in-Base-clause-meets c = λ p.
    let is = c.of_bytes.ensures in
    by_bytes_of_version c.of_bytes.result _ c.args.bytes c.args.bits p is.kind is.header is.offset is.size is.mask is.comparison is.number c.in-Base.is

pub returns-in-Transport-clause-meets : goal.returns-in-Transport-clause-meets
returns-in-Transport-clause-meets c = λ p.
    let is = c.of_bytes-in-Transport.ensures in
    by_bytes_of_protocol c.of_bytes-in-Transport.result _ c.args.bytes c.args.bits p is.kind is.header is.offset is.size is.mask is.comparison is.number c.in-Transport.is
