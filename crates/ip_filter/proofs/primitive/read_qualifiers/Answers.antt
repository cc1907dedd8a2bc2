use Rattle.ip_filter.proofs.PrimitiveLemmas.{side_refused}
use Rattle.ip_filter.proofs.primitive.read_qualifiers.Goals as goal

pub returns-in-Err-clause-err : goal.returns-in-Err-clause-err
returns-in-Err-clause-err c text x is = side_refused x c.args.terms text _ _ (c.in-Err.ensures.err text is)
