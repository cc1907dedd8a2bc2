use Rattle.ip_spec.proofs.Common.{Consumes-trans}
use Rattle.check_uses.proofs.readers.read_options_and_auth.Goals as goal

pub returns-in-Ok-read : goal.returns-in-Ok-read
returns-in-Ok-read g c =
    let o = c.in-Ok.ensures.header in
    let a = c.in-Ok-read.ensures.header in
    (o.bytes, a.bytes, o.header, o.fields, a.header, a.fields, Consumes-trans _ _ _ o.bytes a.bytes o.consumed a.consumed)
