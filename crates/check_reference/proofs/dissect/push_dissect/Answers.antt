use Rattle.ip_spec.proofs.Common.{on_ok_weaker}
use Rattle.check_reference.proofs.DissectLemmas.{plain_joined}
use Rattle.check_reference.proofs.dissect.push_dissect.Goals as goal

pub returns : goal.returns
returns c =
    on_ok_weaker _
    (plain_joined c.args.bytes.now _ c.in_ok-packet.ensures.fields c.if-packet-eq0.false _ _ _ _ _ _ _ c.in_ok-push_base.ensures (rw c.deref.ensures.value at c.in_ok-push_headers.ensures)
    c.in_ok-push_fragment.ensures c.in_ok-push_next.ensures c.in_ok-push_missing.ensures)
    c.push_end-2.ensures
