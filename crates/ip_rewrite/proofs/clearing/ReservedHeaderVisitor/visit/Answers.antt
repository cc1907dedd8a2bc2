use Rattle.ip_spec.proofs.Common.{◌≡◌, [], ◌∷◌, ◌++◌, ◌||◌, ◌&&◌, refl, ◌∙◌, ap, list_any, ExtHeader}
use Rattle.ip_dissect.specs.Fragment.{fragments}
use Rattle.ip_rewrite.specs.Without.{is_authentication}
use Rattle.ip_rewrite.specs.Clearing.{has_reserved, reserved_fragmented, reserved_covered}
use Rattle.ip_rewrite.proofs.SelectionLemmas.{any_last, more_or}
use Rattle.ip_rewrite.proofs.ClearingLemmas.{reserved_more, covered_more}
use Rattle.ip_rewrite.proofs.clearing.ReservedHeaderVisitor.visit.Goals as goal

pub returns : goal.returns
returns c = λ old k d visited index at.
    let h : ExtHeader = record { number = c.args.number.0; bytes = c.args.header.now } in
    let set : c.has_reserved-is_set.result ≡ has_reserved h = c.has_reserved-is_set.ensures h refl in
    let fragmented : c.fragments.result ≡ fragments h = c.fragments.ensures h refl in (
      more_or old.has_authentication c.args.self.now.has_authentication _ c.eq.result (is_authentication h) (list_any is_authentication d) (list_any is_authentication (d ++ h ∷ [])) visited.0 c.eq.ensures refl (any_last is_authentication d h),
      more_or old.is_fragmented c.args.self.now.is_fragmented _ c.fragments.result (fragments h) (list_any fragments d) (list_any fragments (d ++ h ∷ [])) visited.1 fragmented refl (any_last fragments d h),
      more_or old.is_set c.args.self.now.is_set _ c.has_reserved-is_set.result (has_reserved h) (list_any has_reserved d) (list_any has_reserved (d ++ h ∷ [])) visited.2 set refl (any_last has_reserved d h),
      more_or old.is_set_fragmented c.args.self.now.is_set_fragmented _ (c.args.self.now.is_fragmented && c.has_reserved-is_set.result) ((old.is_fragmented || list_any fragments d) && has_reserved h) (reserved_fragmented old.is_fragmented d) (reserved_fragmented old.is_fragmented (d ++ h ∷ [])) visited.3
          (ap (λ z. z && c.has_reserved-is_set.result) visited.1 ∙ ap (λ z. (old.is_fragmented || list_any fragments d) && z) set) refl (reserved_more old.is_fragmented d h),
      more_or old.is_set_covered c.args.self.now.is_set_covered _ ((c.args.self.now.has_authentication || c.eq.result) && c.has_reserved-is_set.result) (((old.has_authentication || list_any is_authentication d) || is_authentication h) && has_reserved h) (reserved_covered old.has_authentication d) (reserved_covered old.has_authentication (d ++ h ∷ [])) visited.4
          (ap (λ z. (z || c.eq.result) && c.has_reserved-is_set.result) visited.0 ∙ (ap (λ z. ((old.has_authentication || list_any is_authentication d) || z) && c.has_reserved-is_set.result) c.eq.ensures
          ∙ ap (λ z. ((old.has_authentication || list_any is_authentication d) || is_authentication h) && z) set)) refl (covered_more old.has_authentication d h),
    )
