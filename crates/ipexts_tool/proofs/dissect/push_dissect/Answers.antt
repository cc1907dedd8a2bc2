use Rattle.ip_spec.proofs.Common.{on_ok_weaker}
use Rattle.ipexts_tool.proofs.DissectLemmas.{answer_joined}
use Rattle.ipexts_tool.proofs.dissect.push_dissect.Goals as goal

pub returns : goal.returns
returns g c =
    on_ok_weaker _
    (answer_joined c.args.bytes.now _ c.in-Some.base c.dissect-packet.ensures.parts c.in-Some.is _ _ _ _ _ _ _ c.in_ok-push_base.ensures (rw c.slice.ensures at (c.in_ok-push_headers.ensures c.args.bytes.now c.dissect-packet.ensures.parts)) c.in_ok-push_fragment.ensures c.in_ok-push_next.ensures
    c.in_ok-push_missing.ensures)
    c.push_end-2.ensures
