use Rattle.ip_spec.proofs.Common.{rules}
use Rattle.ip_filter.proofs.QualifierLemmas.{kind_read, other_read, nothing_read}
use Rattle.ip_filter.proofs.primitive.read_kind.Goals as goal

pub returns-in-Some-kind_named : goal.returns-in-Some-kind_named
returns-in-Some-kind_named c = kind_read c.args.text.now c.in-Some.word c.in-Some-kind_named.kind c.in-Some.ensures.some (search rules)

pub returns-in-None-kind_named : goal.returns-in-None-kind_named
returns-in-None-kind_named c = other_read c.args.text.now c.in-Some.word c.in-Some.ensures.some (search rules)

pub returns-in-None : goal.returns-in-None
returns-in-None c = nothing_read c.args.text.now c.in-None.ensures.none
