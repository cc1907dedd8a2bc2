use Rattle.ip_spec.proofs.Common.{sym, ◌∙◌, ◌≡◌, rules, eqb-true}
use Rattle.ip_base.specs.Ipv4HeaderSlice.{bytes}
use Rattle.ip_base.specs.Ipv4Header.{protocol}
use Rattle.ip_dissect.specs.Extent.{ipv4_stated}
use Rattle.ip_dissect.proofs.SummaryLemmas.{plain_summarized}
use Rattle.ip_dissect.proofs.PlainLemmas.{short_not_plain, fragment_not_plain, auth_not_plain, plain_is, ipv4_none, ipv4_whole, ipv4_payload}
use Rattle.ip_dissect.proofs.plain.ipv4_plain.Goals.{then-is_too_short-via-then-is_too_short, then-is_too_short-via-else-is_too_short+then-is_fragmenting_payload, then-is_too_short-via-else-is_too_short+else-is_fragmenting_payload+then-eq}
use Rattle.ip_dissect.proofs.plain.ipv4_plain.Goals as goal

pub returns-then-is_too_short-clause-plain : goal.returns-then-is_too_short-clause-plain
returns-then-is_too_short-clause-plain c = elim c.then-is_too_short.branch [
  | then-is_too_short-via-then-is_too_short w ↦ sym (short_not_plain (bytes c.args.base) c.args.bytes.now (sym c.is_too_short.ensures ∙ w.if-is_too_short.true))
  | then-is_too_short-via-else-is_too_short+then-is_fragmenting_payload w ↦ sym (fragment_not_plain (bytes c.args.base) c.args.bytes.now (sym w.is_fragmenting_payload.ensures ∙ w.if-is_fragmenting_payload.true))
  | then-is_too_short-via-else-is_too_short+else-is_fragmenting_payload+then-eq w ↦ sym (auth_not_plain (bytes c.args.base) c.args.bytes.now (sym w.is_fragmenting_payload.ensures ∙ w.if-is_fragmenting_payload.false) (sym c.protocol-number.ensures ∙ eqb-true _ _ (sym w.eq.ensures ∙ w.if-eq.true)))
]

pub returns : goal.returns
returns c =
    let b = bytes c.args.base in
    let s = c.args.bytes.now in
    let short = sym c.is_too_short.ensures ∙ c.if-is_too_short.false in
    let whole = sym c.is_fragmenting_payload.ensures ∙ c.if-is_fragmenting_payload.false in
    let other : protocol b ≡ 51 → ⊥ = search rules in
    record {
      plain = sym (plain_is _ _ _ (ipv4_none b s short whole other) (ipv4_whole b s short whole other) (ipv4_payload b s short whole other));
      summary = c.plain_summary.ensures ∙ rw (c.slice.ensures.bytes, c.ipv4_stated_len.ensures) (plain_summarized 4 b s (ipv4_stated b) (protocol b) _ _ _ _ c.protocol-number.ensures (ipv4_none b s short whole other) (ipv4_whole b s short whole other) (ipv4_payload b s short whole other));
    }
