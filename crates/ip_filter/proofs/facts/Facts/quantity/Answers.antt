use Rattle.ip_spec.proofs.Common.{◌≡◌, ◌+◌, ◌-◌, ◌∙◌, length, arith, ap, sym, None, bytes_of}
use Rattle.std.specs.Option.{option_or}
use Rattle.ip_dissect.specs.Dissection.{dissected}
use Rattle.ip_dissect.proofs.PacketLemmas.{summary_fits}
use Rattle.ip_filter.specs.Truth.{of_packet, quantity_of}
use Rattle.ip_filter.proofs.facts.Facts.quantity.Goals as goal

pub overflow_sub-self : goal.overflow_sub-self
overflow_sub-self c =
    let packet = c.args.self.now.packet in
    omega (arith, summary_fits packet.bytes.now _ _ packet.base_is packet.summary_is)

pub returns-in-None : goal.returns-in-None
returns-in-None c =
    let packet = c.args.self.now.packet in
    let p = dissected packet.bytes.now in
    let fits = summary_fits packet.bytes.now _ _ packet.base_is packet.summary_is in
    let base = ap (λ o. o.base_len) packet.summary_is in
    let chain = ap (λ o. o.extensions_len) packet.summary_is in
    let payload = ap (λ o. o.payload_len) packet.summary_is in
    let there : length packet.bytes.now - packet.summary.padding_len ≡ length p.base + length (bytes_of p.headers) + length p.payload = omega (arith, fits, base, chain, payload) in
    let none : p.stated ≡ None = sym (ap (λ o. o.stated_len) packet.summary_is) ∙ c.in-None.is in
    c.of_packet-in-None.ensures
    ∙ ap (λ n. of_packet n p) there
    ∙ ap (λ t. option_or t (of_packet (length p.base + length (bytes_of p.headers) + length p.payload) p)) (sym none)
    ∙ ap (λ q. quantity_of q p) (sym c.in-Length.is)
