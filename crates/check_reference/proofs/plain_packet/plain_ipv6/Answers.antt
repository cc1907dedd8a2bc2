use Rattle.ip_spec.proofs.Common.{◌∙◌, arith}
use Rattle.check_reference.proofs.PacketLemmas.{ipv6_fault_is}
use Rattle.check_reference.proofs.plain_packet.plain_ipv6.Goals as goal

pub returns-in-Err-clause-fault : goal.returns-in-Err-clause-fault
returns-in-Err-clause-fault c =
    let front = c.plain_front-len_source.ensures in
    let end = rw c.in-Err.is at c.in_ok-exts_len.ensures in
    end.fault ∙ ipv6_fault_is _ _ _ _ c.ipv6_payload_length-payload_length.ensures (omega arith) front.source _ front.front c.split_at.ensures.back
