use Rattle.ip_spans.proofs.PacketPartsLemmas.{parts_of_ipv6, ipv6_within}
use Rattle.ip_spans.proofs.packet_parts.parse_packet_lax.Goals as goal

pub returns-in-Ok-clause-packet : goal.returns-in-Ok-clause-packet
returns-in-Ok-clause-packet c = parts_of_ipv6 _ _ _ _ _ c.in-Ok.ensures.packet c.of_ipv6.ensures.packet c.of_ipv6.ensures.spans

pub returns-in-Ok-clause-within : goal.returns-in-Ok-clause-within
returns-in-Ok-clause-within c = rw c.of_ipv6.ensures.packet (ipv6_within _ _ c.in-Ok.ensures.packet)
