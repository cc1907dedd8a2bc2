use Rattle.ip_spec.proofs.Common.{◌∙◌, ap}
use Rattle.ip_dissect.specs.Dissection.{dissected}
use Rattle.ip_rewrite.specs.Writing.{rises_at}
use Rattle.ip_rewrite.proofs.OrderLemmas.{rises_is}
use Rattle.ip_rewrite.proofs.order.are_in_order.Goals as goal

pub returns : goal.returns
returns c =
    let headers = (dissected c.args.packet.now.bytes.now).headers in
    c.walk.ensures.visited.2 ∙ (ap (λ e. rises_at 0 e 0 headers) c.requires ∙ rises_is headers)
