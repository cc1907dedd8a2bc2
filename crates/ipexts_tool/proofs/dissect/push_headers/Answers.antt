use Rattle.ipexts_tool.proofs.DissectLemmas.{ipv4_headers}
use Rattle.ipexts_tool.proofs.dissect.push_headers.Goals as goal

pub returns : goal.returns
returns g c = λ s parts.
    rw (← ipv4_headers c.args.packet.now c.ipv4_authentication.result c.in_default.ensures.ipv6 c.ipv4_authentication.ensures.ipv4 c.ipv4_authentication.ensures.headers s parts) c.push_authentication.ensures
