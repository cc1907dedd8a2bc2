use Rattle.ip_dissect.proofs.FoundLemmas.{no_fragment, one_fragment}
use Rattle.ip_spec.proofs.Common.{sym, ◌∙◌}
use Rattle.ip_dissect.proofs.walk.Found.with.Goals as goal

pub returns-in-Some : goal.returns-in-Some
returns-in-Some c = λ d h told is. one_fragment h d _ _ _ (sym is ∙ c.in-Some.is) told c.with_fragment.ensures.fragment c.with_fragment.ensures.later c.with_fragment.ensures.count

pub returns-in-None : goal.returns-in-None
returns-in-None c = λ d h told is. no_fragment h d _ (sym is ∙ c.in-None.is) told
