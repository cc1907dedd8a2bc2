use Rattle.ip_spec.proofs.Common.{ap, arith}
use Rattle.ip_dissect.proofs.PacketLemmas.{summary_fits}
use Rattle.ip_filter.proofs.BytesLemmas.{packet_begins}
use Rattle.ip_filter.proofs.facts.Facts.bytes_of_packet.Goals as goal

pub slice_bounds-result-count : goal.slice_bounds-result-count
slice_bounds-result-count c =
    let packet = c.args.self.now.packet in
    omega (arith, summary_fits packet.bytes.now _ _ packet.base_is packet.summary_is)

pub returns : goal.returns
returns c =
    let packet = c.args.self.now.packet in
    packet_begins packet.bytes.now _ packet.base_is packet.summary.padding_len (ap (λ o. o.padding_len) packet.summary_is)
