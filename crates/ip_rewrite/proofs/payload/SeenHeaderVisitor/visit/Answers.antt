use Rattle.ip_spec.proofs.Common.{◌||◌, sym, ◌∙◌, ap, arith, or_assoc, list_any, ExtHeader}
use Rattle.ip_rewrite.specs.Without.{is_authentication}
use Rattle.ip_rewrite.proofs.FrontLemmas.{link_more}
use Rattle.ip_rewrite.proofs.SelectionLemmas.{any_last}
use Rattle.ip_rewrite.proofs.payload.SeenHeaderVisitor.visit.Goals as goal

pub returns : goal.returns
returns c = λ old k d visited index at.
    let h : ExtHeader = record { number = c.args.number.0; bytes = c.args._header.now } in (
      ap (λ x. c.args.self.now.has_authentication || x) c.eq.ensures ∙ (ap (λ x. x || is_authentication h) visited.0 ∙ (or_assoc old.has_authentication (list_any is_authentication d) (is_authentication h) ∙ ap (λ x. old.has_authentication || x) (sym (any_last is_authentication d h)))),
      λ b size. omega (arith, at, size, link_more old.last b d h),
    )
