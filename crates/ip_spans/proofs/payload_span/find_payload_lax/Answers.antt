use Rattle.ip_spec.proofs.Common.{◌∙◌}
use Rattle.ip_spans.specs.PacketParts.{payload_span}
use Rattle.ip_spans.proofs.PacketPartsLemmas.{in_ipv6, ipv6_within}
use Rattle.ip_spans.proofs.payload_span.find_payload_lax.Goals as goal

pub returns-in-Ok-clause-payload : goal.returns-in-Ok-clause-payload
returns-in-Ok-clause-payload c = c.of_ipv6.ensures ∙ in_ipv6 payload_span _ _ c.in-Ok.ensures.packet

pub returns-in-Ok-clause-within : goal.returns-in-Ok-clause-within
returns-in-Ok-clause-within c = rw c.of_ipv6.ensures (ipv6_within _ _ c.in-Ok.ensures.packet)
