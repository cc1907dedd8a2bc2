use Rattle.ip_spec.proofs.Common.{◌∙◌}
use Rattle.ip_dissect.proofs.JoinedLemmas.{dissection_joined}
use Rattle.ip_dissect.proofs.walks.dissect.Goals as goal

pub returns-clause-joined : goal.returns-clause-joined
returns-clause-joined c = dissection_joined c.walk.result.bytes.now _ _ c.walk.result.base_is c.dissection.ensures ∙ c.walk.ensures.bytes
