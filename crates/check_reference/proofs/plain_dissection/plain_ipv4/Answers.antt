use Rattle.check_reference.proofs.FieldLemmas.{fields4, end4}
use Rattle.check_reference.proofs.plain_dissection.plain_ipv4.Goals as goal

pub returns-clause-fields : goal.returns-clause-fields
returns-clause-fields c =
    fields4 c.args.base.now c.args.bytes.now c.packet_of-packet.result.now c.split_at.result.1.now c.plain_ipv4_stated-stated.result c.packet_of-packet.ensures.bytes c.split_at.ensures.back c.in_ok-chain.chain c.plain_ipv4_stated-stated.ensures c.in_ok-chain.ensures
    _ c.plain_ipv4_fragment.ensures _ c.missing_of.ensures _
    (end4 c.args.base.now c.args.bytes.now c.packet_of-packet.result.now c.split_at.result.1.now c.plain_ipv4_stated-stated.result c.packet_of-packet.ensures.bytes c.split_at.ensures.back c.in_ok-chain.chain c.plain_ipv4_stated-stated.ensures c.in_ok-chain.ensures _ c.ipv4_end.ensures)
