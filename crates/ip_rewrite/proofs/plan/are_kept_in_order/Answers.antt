use Rattle.ip_spec.proofs.Common.{◌≡◌, ◌&&◌, ◌∙◌, ap, subst, List, ExtHeader}
use Rattle.ip_dissect.specs.Dissection.{dissected}
use Rattle.ip_rewrite.specs.Selection.{kept}
use Rattle.ip_rewrite.specs.Writing.{rises_at}
use Rattle.ip_rewrite.specs.declared.order.Order.{Order}
use Rattle.ip_rewrite.specs.declared.which.Which.{Which}
use Rattle.ip_rewrite.proofs.OrderLemmas.{rises_is}
use Rattle.ip_rewrite.proofs.plan.are_kept_in_order.Goals as goal

pub returns : goal.returns
returns c =
    let all : List ExtHeader = (dissected c.args.packet.now.bytes.now).headers in
    let seen = c.walk.ensures.visited.1 c.new-kept.ensures.count c.new-kept.ensures.len in
    let Rises : Which → Order → Type 0 = λ k x. c.walk.new.visitor.visitor.rises ≡ (x.rises && rises_at x.last x.last_routing 0 (kept k all)) in
    let done = subst (λ (x : Order). Rises c.args.which x) c.new-kept.ensures.visitor (subst (λ (k : Which). Rises k c.new-kept.result.visitor) c.new-kept.ensures.which seen.2.2) in
    done ∙ (ap (λ e. rises_at 0 e 0 (kept c.args.which all)) c.requires ∙ rises_is (kept c.args.which all))
