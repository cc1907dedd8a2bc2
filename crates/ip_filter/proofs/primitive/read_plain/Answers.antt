use Rattle.ip_spec.proofs.Common.{rules}
use Rattle.ip_filter.proofs.PrimitiveLemmas.{plain_read, plain_refused}
use Rattle.ip_filter.proofs.primitive.read_plain.Goals as goal

pub returns-in-Ok-clause-ok : goal.returns-in-Ok-clause-ok
returns-in-Ok-clause-ok c text is none =
    rw c.plain.ensures (plain_read c.args.before c.args.terms text c.args.word is c.in-Some.keyword (search rules) none c.in-Ok.term c.in-Ok.rest.now c.in-Ok.ensures.ok)

pub returns-in-Err-clause-err : goal.returns-in-Err-clause-err
returns-in-Err-clause-err c text is none sign = plain_refused c.args.before c.args.terms text c.args.word is c.in-Some.keyword (search rules) none _ _ c.in-Err.ensures.err
