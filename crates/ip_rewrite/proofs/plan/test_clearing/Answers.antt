use Rattle.ip_spec.proofs.Common.{sym, ◌∙◌, None, cond-true}
use Rattle.ip_dissect.specs.Dissection.{DissectedParts, dissected}
use Rattle.ip_rewrite.specs.Clearing.{reserved_fault}
use Rattle.ip_rewrite.specs.Request.{with_kept}
use Rattle.ip_rewrite.specs.declared.request.Request.{Request}
use Rattle.ip_rewrite.proofs.ReservedLemmas.{not_false}
use Rattle.ip_rewrite.proofs.plan.test_clearing.Goals as goal

pub returns : goal.returns
returns c =
    let p : DissectedParts = dissected c.args.packet.now.bytes.now in
    let r : Request = c.args.request in
    c.test_reserved.ensures (with_kept r p) (c.is_ipv4_fragment-is_fragment.ensures p c.args.packet.now.summary_is) c.requires.set c.requires.fragmented c.requires.covered
    ∙ sym (cond-true r.clears (reserved_fault r.authentication (with_kept r p)) None (not_false r.clears c.if-not-request.false))
