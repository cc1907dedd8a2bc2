use Rattle.ipexts_tool.proofs.PacketLemmas.{ipv4_answer, ipv6_answer}
use Rattle.ipexts_tool.proofs.packet.push_packet.Goals as goal

pub returns-in-Ok-Ipv4 : goal.returns-in-Ok-Ipv4
returns-in-Ok-Ipv4 g c =
    let is = rw c.in-Ok-Ipv4.field-0-is at c.in-Ok-Ipv4.ensures.packet in
    rw (ipv4_answer _ _ c.in-Ok-Ipv4.ensures.fault (c.one_packet.ensures.version_4 _ _ is) (c.one_packet.ensures.ipv4 _ _ is)) c.push_ipv4.ensures

pub returns-in-Ok-Ipv6 : goal.returns-in-Ok-Ipv6
returns-in-Ok-Ipv6 g c =
    let is = rw c.in-Ok-Ipv6.field-0-is at c.in-Ok-Ipv6.ensures.packet in
    rw (ipv6_answer _ _ c.in-Ok-Ipv6.ensures.fault (c.one_packet.ensures.version_6 _ _ is) (c.one_packet.ensures.ipv6 _ _ is)) c.push_ipv6.ensures
