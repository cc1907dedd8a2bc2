use Rattle.ip_spec.proofs.Common.{rules, refl}
use Rattle.ip_filter.proofs.QualifierLemmas.{direction_read, kind_alone_read}
use Rattle.ip_filter.proofs.PrimitiveLemmas.{directions_refused}
use Rattle.ip_filter.proofs.primitive.read_side_or_kind.Goals as goal

pub returns-in-Ok-clause-some : goal.returns-in-Ok-clause-some
returns-in-Ok-clause-some c text is =
    direction_read c.args.terms text c.args.word.now is _ c.in-Some.direction c.in-Ok.joined c.read_kind-kind.result.0 c.in-Ok.after.now (search rules) c.of_any_protocol.ensures
    (c.in-Ok.ensures.ok c.args.word.now.bytes.now (search rules)) c.read_kind-kind.ensures

pub returns-in-Err-clause-err : goal.returns-in-Err-clause-err
returns-in-Err-clause-err c text is =
    directions_refused c.args.terms text c.args.word.now is c.in-Some.direction (search rules) _ _ (c.in-Err.ensures.err c.args.word.now.bytes.now (search rules))

pub returns-in-Some-kind_of-clause-some : goal.returns-in-Some-kind_of-clause-some
returns-in-Some-kind_of-clause-some c text is =
    kind_alone_read c.args.terms text c.args.word.now is _ c.in-Some-kind_of.kind (search rules) (search rules) c.of_any_protocol-in-Some-kind_of.ensures refl
