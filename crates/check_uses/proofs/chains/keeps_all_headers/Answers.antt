use Rattle.ip_spec.proofs.Common.{ap, sym, ◌∙◌, length, arith, leb-true, le-leb}
use Rattle.check_uses.proofs.WithinLemmas.{all_within}
use Rattle.check_uses.proofs.chains.keeps_all_headers.Goals as goal

pub returns : goal.returns
returns c =
    let truncated = c.from_slice_lax.ensures.truncated c.args.snap in
    let whole = c.from_slice_lax.ensures.answer.value in
    let within = all_within c.args.snap _ in
    let joined = ap length c.slice.ensures.joined in (
      λ told. truncated ∙ within.0 (omega (arith, leb-true _ _ told, joined)) ∙ whole,
      λ same. le-leb _ _ (omega (arith, joined, within.1 (sym truncated ∙ same ∙ sym whole))),
    )
