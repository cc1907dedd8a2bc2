use Rattle.ip_spec.proofs.Common.{refl}
use Rattle.ip_base.specs.Ipv6HeaderSlice.{bytes}
use Rattle.ip_dissect.proofs.SummaryLemmas.{ipv6_summarized}
use Rattle.ip_dissect.proofs.summary.ipv6_summary.Goals as goal

pub returns-clause-summary : goal.returns-clause-summary
returns-clause-summary g c =
    let passed = c.pass-passed.ensures.passed in
    ipv6_summarized (bytes c.args.base) c.args.bytes.now _ c.slice-slice.ensures.bytes _ c.ipv6_stated_len-stated_len.ensures _ _ _ c.packet_of-packet.ensures.bytes c.after-after_base.ensures _ _ c.next_header.ensures _ passed.number passed.rest passed.found
    _ refl refl refl refl refl refl refl refl c.missing.ensures refl refl (passed.error _)
