use Rattle.ip_spec.proofs.Common.{◌≡◌, true, sym, ◌∙◌, None, cond-true}
use Rattle.ip_dissect.specs.Dissection.{DissectedParts, dissected}
use Rattle.ip_rewrite.specs.Order.{order_fault}
use Rattle.ip_rewrite.specs.Request.{with_kept}
use Rattle.ip_rewrite.specs.declared.request.Request.{Request}
use Rattle.ip_rewrite.proofs.ReservedLemmas.{not_false}
use Rattle.ip_rewrite.proofs.plan.test_ordering.Goals as goal

pub returns : goal.returns
returns c =
    let p : DissectedParts = dissected c.args.packet.now.bytes.now in
    let r : Request = c.args.request in
    let is : r.orders ≡ true = not_false r.orders c.if-not-request.false in
    c.test_order.ensures (with_kept r p) c.requires.authentication c.requires.fragments (c.requires.order is)
    ∙ sym (cond-true r.orders (order_fault r.authentication (with_kept r p)) None is)
