use Rattle.ip_spec.proofs.Common.{◌∙◌, sym, ap}
use Rattle.ip_filter.specs.declared.network.Network.TheVariants as network
use Rattle.ip_filter.specs.Qualifiers.{network_said, qualified}
use Rattle.ip_filter.proofs.PrimitiveLemmas.{mask_read, mask_missing, other_mask}
use Rattle.ip_filter.proofs.primitive.read_mask.Goals as goal

pub returns-in-Some-clause-ok : goal.returns-in-Some-clause-ok
returns-in-Some-clause-ok c n text x h same r b =
    mask_read x n text h r c.args.address c.args.text.now b c.in-Ok.word c.in-Ok.ensures.ok c.in-Some.len c.in-Some.ensures.some _
    (c.masked.ensures ∙ ap (λ y. qualified y (network_said y.direction (network.Ipv4 c.args.address c.in-Some.len))) (sym same))

pub returns-in-None-clause-err : goal.returns-in-None-clause-err
returns-in-None-clause-err c n text x h same r b = rw c.unexpected.ensures (other_mask x n text h r c.args.address c.args.text.now b c.in-Ok.word c.in-Ok.ensures.ok c.in-None.ensures.none)

pub returns-in-Err-clause-err : goal.returns-in-Err-clause-err
returns-in-Err-clause-err c n text x h same r b = let a = c.in-Err.ensures.err in mask_missing x n text h r c.args.address c.args.text.now b _ _ a
