use Rattle.ip_spec.proofs.Common.{◌∙◌, subst}
use Rattle.etherparse_ip.specs.IpSlice.{IsIpPacket}
use Rattle.ip_spans.specs.PacketParts.{payload_span}
use Rattle.ip_spans.proofs.PacketPartsLemmas.{in_ipv4, in_ipv6, ipv6_within}
use Rattle.ip_spans.proofs.payload_span.find_payload.Goals as goal

pub returns-in-Ok-Ipv4-clause-payload : goal.returns-in-Ok-Ipv4-clause-payload
returns-in-Ok-Ipv4-clause-payload c =
    c.of_ipv4.ensures ∙ in_ipv4 payload_span _ _ (subst (IsIpPacket c.args.bytes.now) c.in-Ok-Ipv4.field-0-is c.in-Ok-Ipv4.ensures.packet)

pub returns-in-Ok-Ipv6-clause-payload : goal.returns-in-Ok-Ipv6-clause-payload
returns-in-Ok-Ipv6-clause-payload c =
    c.of_ipv6.ensures ∙ in_ipv6 payload_span _ _ (subst (IsIpPacket c.args.bytes.now) c.in-Ok-Ipv6.field-0-is c.in-Ok-Ipv6.ensures.packet)

pub returns-in-Ok-Ipv6-clause-within : goal.returns-in-Ok-Ipv6-clause-within
returns-in-Ok-Ipv6-clause-within c =
    rw c.of_ipv6.ensures (ipv6_within _ _ (subst (IsIpPacket c.args.bytes.now) c.in-Ok-Ipv6.field-0-is c.in-Ok-Ipv6.ensures.packet))
