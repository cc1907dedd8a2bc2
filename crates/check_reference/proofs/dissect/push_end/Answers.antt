use Rattle.ip_spec.proofs.Common.{on_ok_weaker}
use Rattle.ipexts_tool.proofs.DissectLemmas.{truncated_joined}
use Rattle.check_reference.proofs.dissect.push_end.Goals as goal

pub returns-in_ok-push_truncated-in-Truncated : goal.returns-in_ok-push_truncated-in-Truncated
returns-in_ok-push_truncated-in-Truncated c =
    on_ok_weaker _ (truncated_joined _ _ _ _ _ c.args.end.now c.in-Truncated.is c.in_ok-push_truncated-in-Truncated.ensures) c.push_in.ensures
