use Rattle.ip_spec.proofs.Common.{subst}
use Rattle.etherparse_ip.specs.IpSlice.{IsIpPacket}
use Rattle.ip_spans.proofs.PacketPartsLemmas.{parts_of_ipv4, parts_of_ipv6, ipv6_within}
use Rattle.ip_spans.proofs.packet_parts.parse_packet.Goals as goal

pub returns-in-Ok-Ipv4-clause-packet : goal.returns-in-Ok-Ipv4-clause-packet
returns-in-Ok-Ipv4-clause-packet c =
    parts_of_ipv4 _ _ _ _ _ (subst (IsIpPacket c.args.bytes.now) c.in-Ok-Ipv4.field-0-is c.in-Ok-Ipv4.ensures.packet) c.of_ipv4.ensures.packet c.of_ipv4.ensures.spans

pub returns-in-Ok-Ipv6-clause-packet : goal.returns-in-Ok-Ipv6-clause-packet
returns-in-Ok-Ipv6-clause-packet c =
    parts_of_ipv6 _ _ _ _ _ (subst (IsIpPacket c.args.bytes.now) c.in-Ok-Ipv6.field-0-is c.in-Ok-Ipv6.ensures.packet) c.of_ipv6.ensures.packet c.of_ipv6.ensures.spans

pub returns-in-Ok-Ipv6-clause-within : goal.returns-in-Ok-Ipv6-clause-within
returns-in-Ok-Ipv6-clause-within c =
    rw c.of_ipv6.ensures.packet (ipv6_within _ _ (subst (IsIpPacket c.args.bytes.now) c.in-Ok-Ipv6.field-0-is c.in-Ok-Ipv6.ensures.packet))
