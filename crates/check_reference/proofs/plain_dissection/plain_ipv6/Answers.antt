use Rattle.ip_spec.proofs.Common.{◌∙◌, ap, map}
use Rattle.ip_dissect.specs.Fragment.{ipv6_fragment}
use Rattle.check_reference.specs.PlainHeader.{plain_header_of}
use Rattle.check_reference.proofs.FieldLemmas.{fields6}
use Rattle.check_reference.proofs.plain_dissection.plain_ipv6.Goals as goal

pub returns-clause-fields : goal.returns-clause-fields
returns-clause-fields c =
    fields6 c.args.base.now c.args.bytes.now c.packet_of-packet.result.now c.split_at.result.1.now c.plain_ipv6_stated-stated.result c.packet_of-packet.ensures.bytes c.split_at.ensures.back c.in_ok-chain.chain c.plain_ipv6_stated-stated.ensures c.in_ok-chain.ensures c.requires.len
    _ (c.plain_fragment-fragment.ensures ∙ ap (λ hs. ipv6_fragment (map plain_header_of hs)) c.deref.ensures.value) _ c.missing_of.ensures _ c.ipv6_end-end.ensures
