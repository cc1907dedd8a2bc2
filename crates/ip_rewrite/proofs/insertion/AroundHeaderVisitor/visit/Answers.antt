use Rattle.ip_spec.proofs.Common.{◌≡◌, [], ◌∷◌, ◌++◌, ◌&&◌, take, length, refl, ◌∙◌, ap, nat_lt, list_any, ExtHeader}
use Rattle.ip_dissect.specs.Fragment.{fragments}
use Rattle.ip_rewrite.specs.Without.{is_authentication}
use Rattle.ip_rewrite.specs.Headers.{is_options}
use Rattle.ip_rewrite.proofs.SelectionLemmas.{any_last, more_or}
use Rattle.ip_rewrite.proofs.InsertionLemmas.{before_more}
use Rattle.ip_rewrite.proofs.insertion.AroundHeaderVisitor.visit.Goals as goal

pub returns : goal.returns
returns c = λ old k d visited index at.
    let h : ExtHeader = record { number = c.args.number.0; bytes = c.args.header.now } in
    let here : c.fragments-fragments.result ≡ fragments h = c.fragments-fragments.ensures h refl in
    let place : nat_lt c.args.index c.args.self.now.index ≡ nat_lt (length d) old.index = ap (λ i. nat_lt i c.args.self.now.index) index ∙ ap (nat_lt (length d)) visited.0 in
    let early : nat_lt c.args.index 1 ≡ nat_lt (length d) 1 = ap (λ i. nat_lt i 1) index in (
      visited.0,
      more_or old.is_fragmented c.args.self.now.is_fragmented _ (nat_lt c.args.index c.args.self.now.index && c.fragments-fragments.result) (nat_lt (length d) old.index && fragments h) (list_any fragments (take old.index d)) (list_any fragments (take old.index (d ++ h ∷ [])))
          visited.1 (ap (λ x. x && c.fragments-fragments.result) place ∙ ap (λ x. nat_lt (length d) old.index && x) here) refl (before_more fragments old.index d h),
      more_or old.has_authentication c.args.self.now.has_authentication _ c.eq.result (is_authentication h) (list_any is_authentication d) (list_any is_authentication (d ++ h ∷ [])) visited.2 c.eq.ensures refl (any_last is_authentication d h),
      more_or old.starts_with_options c.args.self.now.starts_with_options _ (nat_lt c.args.index 1 && c.eq-2.result) (nat_lt (length d) 1 && is_options h) (list_any is_options (take 1 d)) (list_any is_options (take 1 (d ++ h ∷ [])))
          visited.3 (ap (λ x. x && c.eq-2.result) early ∙ ap (λ x. nat_lt (length d) 1 && x) c.eq-2.ensures) refl (before_more is_options 1 d h),
    )
