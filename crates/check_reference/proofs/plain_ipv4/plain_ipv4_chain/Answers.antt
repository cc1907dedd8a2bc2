use Rattle.ip_spec.proofs.Common.{◌∙◌, sym, refl}
use Rattle.check_reference.proofs.FieldLemmas.{ipv4_one}
use Rattle.check_reference.proofs.plain_ipv4.plain_ipv4_chain.Goals as goal

pub returns : goal.returns
returns c = ipv4_one c.args.base.now c.args.after.now c.in-Some.len c.in-Some.ensures.within c.in-Some.ensures.next (sym c.ipv4_offset.ensures.value ∙ c.if-ipv4_offset-ne0.false) c.if-number-ne51.false _ _ _ c.new-headers.ensures.items c.in_ok-push.ensures.items c.if-number-ne51.false c.split_at.ensures.front refl c.split_at.ensures.back
