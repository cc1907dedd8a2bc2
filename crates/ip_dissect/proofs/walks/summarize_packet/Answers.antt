use Rattle.ip_spec.proofs.Common.{◌∙◌, ap, length}
use Rattle.ip_dissect.proofs.PacketLemmas.{summary_fits}
use Rattle.ip_dissect.proofs.walks.summarize_packet.Goals as goal

pub returns-clause-within : goal.returns-clause-within
returns-clause-within c = summary_fits c.walk-packet.result.bytes.now _ _ c.walk-packet.result.base_is c.walk-packet.result.summary_is ∙ ap length (c.walk-packet.ensures.bytes)
