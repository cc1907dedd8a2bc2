use Rattle.ip_spec.proofs.Common.{sym, ◌∙◌, rules, IsExtensionNumber}
use Rattle.ip_base.specs.Ipv6HeaderSlice.{bytes}
use Rattle.ip_base.specs.Ipv6Header.{ipv6_next_header}
use Rattle.ip_dissect.specs.Extent.{ipv6_stated}
use Rattle.ip_dissect.proofs.SummaryLemmas.{plain_summarized}
use Rattle.ip_dissect.proofs.PlainLemmas.{plain_is, ipv6_none, ipv6_whole, ipv6_payload, ipv6_not_plain}
use Rattle.ip_dissect.proofs.plain.ipv6_plain.Goals as goal

pub returns-then-is_extension-clause-plain : goal.returns-then-is_extension-clause-plain
returns-then-is_extension-clause-plain c =
    let is : IsExtensionNumber c.next_header-number.result.0 = search rules in
    sym (ipv6_not_plain (bytes c.args.base) c.args.bytes.now (rw c.next_header-number.ensures at is))

pub returns : goal.returns
returns c =
    let b = bytes c.args.base in
    let s = c.args.bytes.now in
    let other : IsExtensionNumber c.next_header-number.result.0 → ⊥ = search rules in
    let no = rw c.next_header-number.ensures at other in
    record {
      plain = sym (plain_is _ _ _ (ipv6_none b s no) (ipv6_whole b s no) (ipv6_payload b s no));
      summary = c.plain_summary.ensures ∙ rw (c.slice.ensures.bytes, c.ipv6_stated_len.ensures) (plain_summarized 6 b s (ipv6_stated b) (ipv6_next_header b) _ _ _ _ c.next_header-number.ensures (ipv6_none b s no) (ipv6_whole b s no) (ipv6_payload b s no));
    }
