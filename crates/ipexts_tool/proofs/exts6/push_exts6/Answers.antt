use Rattle.ip_spec.proofs.Common.{◌∙◌, on_ok_weaker}
use Rattle.ipexts_tool.proofs.Exts6Lemmas.{answer_joined}
use Rattle.ipexts_tool.proofs.exts6.push_exts6.Goals as goal

pub returns : goal.returns
returns g c =
    let headers = c.headers.invariant in
    let stays = c.in_default.ensures.steps in
    let end = c.in-Some-end.ensures in
    on_ok_weaker _ (answer_joined _ _ _ _ _ _ _ _ _ _ _ _ _ headers.lines stays.0.0 (stays.1 ∙ headers.start) (stays.2 ∙ headers.input) end.answer c.in_ok-push_next-in-Some-end.ensures) c.push_chain_end.ensures
