use Rattle.ip_spec.proofs.Common.{[], ◌∷◌, ◌++◌, refl, sym, ◌∙◌, list_any, ExtHeader}
use Rattle.ip_dissect.specs.Fragment.{fragments}
use Rattle.ip_rewrite.specs.Without.{is_authentication}
use Rattle.ip_rewrite.proofs.SelectionLemmas.{any_last, more_or}
use Rattle.ip_rewrite.proofs.OrderLemmas.{index_there, index_before}
use Rattle.ip_rewrite.proofs.order.ContentsHeaderVisitor.visit.Goals as goal

pub returns-then-eq : goal.returns-then-eq
returns-then-eq c = λ old k d visited index at.
    let h : ExtHeader = record { number = c.args.number.0; bytes = c.args.header.now } in (
      more_or old.has_authentication c.args.self.now.has_authentication _ c.eq.result (is_authentication h) (list_any is_authentication d) (list_any is_authentication (d ++ h ∷ [])) visited.0 c.eq.ensures refl (any_last is_authentication d h),
      more_or old.fragments c.args.self.now.fragments _ c.fragments.result (fragments h) (list_any fragments d) (list_any fragments (d ++ h ∷ [])) visited.1 (c.fragments.ensures h refl) refl (any_last fragments d h),
      λ none. index ∙ sym (index_there d h (sym c.eq-2.ensures ∙ c.if-eq.true)),
    )

pub returns-else-eq : goal.returns-else-eq
returns-else-eq c = λ old k d visited index at.
    let h : ExtHeader = record { number = c.args.number.0; bytes = c.args.header.now } in (
      more_or old.has_authentication c.args.self.now.has_authentication _ c.eq.result (is_authentication h) (list_any is_authentication d) (list_any is_authentication (d ++ h ∷ [])) visited.0 c.eq.ensures refl (any_last is_authentication d h),
      more_or old.fragments c.args.self.now.fragments _ c.fragments.result (fragments h) (list_any fragments d) (list_any fragments (d ++ h ∷ [])) visited.1 (c.fragments.ensures h refl) refl (any_last fragments d h),
      λ none. visited.2 none ∙ sym (index_before d h (sym c.eq-2.ensures ∙ c.if-eq.false)),
    )
