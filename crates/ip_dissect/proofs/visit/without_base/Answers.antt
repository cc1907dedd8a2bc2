use Rattle.ip_spec.proofs.Common.{rules}
use Rattle.ip_dissect.proofs.PlainLemmas.{none_not_plain}
use Rattle.ip_dissect.proofs.visit.without_base.Goals as goal

pub visit_slow-requires : goal.visit_slow-requires
visit_slow-requires g c = λ _. (search rules, none_not_plain c.args.bytes.now c.requires)

pub returns-clause-plain : goal.returns-clause-plain
returns-clause-plain g c = none_not_plain c.args.bytes.now c.requires
