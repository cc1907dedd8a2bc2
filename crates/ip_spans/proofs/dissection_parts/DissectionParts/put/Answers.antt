use Rattle.ip_spec.proofs.Common.{rules}
use Rattle.ip_dissect.proofs.PacketLemmas.{summary_fits}
use Rattle.ip_spans.proofs.dissection_parts.DissectionParts.put.Goals as goal

pub overflow_add-self : goal.overflow_add-self
overflow_add-self c = let fits = summary_fits c.args.packet.now.bytes.now _ _ c.args.packet.now.base_is c.args.packet.now.summary_is in search (rules, fits)
