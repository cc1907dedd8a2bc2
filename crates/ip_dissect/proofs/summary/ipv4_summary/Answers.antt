use Rattle.ip_spec.proofs.Common.{refl, ap, ◌==◌, not}
use Rattle.ip_base.specs.Ipv4HeaderSlice.{bytes}
use Rattle.ip_dissect.proofs.SummaryLemmas.{ipv4_summarized}
use Rattle.ip_dissect.proofs.summary.ipv4_summary.Goals as goal

pub returns-clause-summary : goal.returns-clause-summary
returns-clause-summary g c =
    let chain = c.ipv4_chain-chain.ensures in
    ipv4_summarized (bytes c.args.base) c.args.bytes.now _ c.slice-slice.ensures.bytes _ c.ipv4_stated_len-stated_len.ensures _ _ _ c.packet_of-packet.ensures.bytes c.after-after_base.ensures chain.rest _ _ _ c.is_too_short-is_short.ensures (ap (λ k. not (k == 0)) c.ipv4_offset-is_later.ensures.value) chain.error
    _ refl refl refl refl chain.count chain.number refl c.ipv4_fragment.ensures c.missing.ensures refl refl refl
