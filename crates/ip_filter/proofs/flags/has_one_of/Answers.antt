use Rattle.std.proofs.Common.{sym, ap, ◌∙◌}
use Rattle.ip_dissect.specs.Dissection.{dissected}
use Rattle.ip_filter.specs.Flags.{AreFlags}
use Rattle.ip_filter.proofs.FlagLemmas.{without_error, none_of_errors}
use Rattle.ip_filter.proofs.flags.has_one_of.Goals.{else-packet-via-then-packet+else-mask-ne0, else-packet-via-else-packet}
use Rattle.ip_filter.proofs.flags.has_one_of.Goals as goal

pub returns : goal.returns
returns c =
    let packet = c.args.packet.now in
    let p = dissected packet.bytes.now in
    let bits = c.args.flags.bits in
    let are : AreFlags c.args.mask p c.args.flags = elim c.else-packet.branch [
      | else-packet-via-then-packet+else-mask-ne0 w ↦ none_of_errors p bits c.args.mask c.requires w.if-mask-ne0.false
      | else-packet-via-else-packet w ↦ without_error p bits c.args.mask c.requires (sym (ap (λ o. o.has_error) packet.summary_is) ∙ w.if-packet.false)
    ] in
    c.has_one_of-2.ensures p are
