use Rattle.ip_spec.proofs.Common.{◌∙◌, refl}
use Rattle.ip_filter.proofs.PrimitiveLemmas.{identifier_missing}
use Rattle.ip_filter.proofs.primitive.read_qualified.Goals as goal

pub returns-in-Err-clause-err : goal.returns-in-Err-clause-err
returns-in-Err-clause-err c text x r =
    let a = c.in-Err.ensures.err in
    identifier_missing x c.args.terms text c.args.head r _ _ (a.0, a.1, a.2 ∙ c.wanted.ensures)

pub returns-in-Ok-read_mask-clause-ok : goal.returns-in-Ok-read_mask-clause-ok
returns-in-Ok-read_mask-clause-ok c text x r = c.in-Ok-read_mask.ensures.ok c.args.terms text x c.args.head refl r (c.in-Some.ensures.some c.args.head refl c.in-Ok.ensures.ok)

pub returns-in-Err-read_mask-clause-err : goal.returns-in-Err-read_mask-clause-err
returns-in-Err-read_mask-clause-err c text x r = c.in-Err-read_mask.ensures.err c.args.terms text x c.args.head refl r (c.in-Some.ensures.some c.args.head refl c.in-Ok.ensures.ok)
