use Rattle.ip_spec.proofs.Common.{◌≡◌, [], ◌∷◌, ◌++◌, length, refl, sym, ◌∙◌, ap, arith, list_any, ExtHeader}
use Rattle.ip_rewrite.specs.Writing.{is_otherwise, selects_otherwise, restricts}
use Rattle.ip_rewrite.specs.declared.which.Which.{Which}
use Rattle.ip_rewrite.proofs.SelectionLemmas.{any_last, more_or}
use Rattle.ip_rewrite.proofs.FirstHeaderLemmas.{first_here, first_before, otherwise_more}
use Rattle.ip_rewrite.proofs.first_header.FirstHeaderVisitor.visit.Goals as goal

pub returns-then-index-eq0 : goal.returns-then-index-eq0
returns-then-index-eq0 c = λ old k d visited index at.
    let h : ExtHeader = record { number = c.args.number.0; bytes = c.args.header.now } in
    let here = first_here old.len c.args.index old.has_segments d h index (omega (arith, c.if-index-eq0.true)) in
    let other : c.is_otherwise.result ≡ is_otherwise old.which (length d) h =
    c.is_otherwise.ensures h refl ∙ (ap (λ (w : Which). is_otherwise w c.args.index h) visited.0 ∙ ap (λ i. is_otherwise old.which i h) index) in (
      visited.0,
      sym here.0,
      c.has_segments-self.ensures h refl ∙ sym here.1,
      more_or old.selects_otherwise c.args.self.now.selects_otherwise _ c.is_otherwise.result (is_otherwise old.which (length d) h) (selects_otherwise old.which 0 d) (selects_otherwise old.which 0 (d ++ h ∷ [])) visited.3 other refl (otherwise_more old.which 0 (length d) d h (omega arith)),
      more_or old.restricts c.args.self.now.restricts _ c.restricts.result (restricts h) (list_any restricts d) (list_any restricts (d ++ h ∷ [])) visited.4 (c.restricts.ensures h refl) refl (any_last restricts d h),
    )

pub returns-else-index-eq0 : goal.returns-else-index-eq0
returns-else-index-eq0 c = λ old k d visited index at.
    let h : ExtHeader = record { number = c.args.number.0; bytes = c.args.header.now } in
    let before = first_before old.len c.args.index old.has_segments d h index (omega (arith, c.if-index-eq0.false)) in
    let other : c.is_otherwise.result ≡ is_otherwise old.which (length d) h =
    c.is_otherwise.ensures h refl ∙ (ap (λ (w : Which). is_otherwise w c.args.index h) visited.0 ∙ ap (λ i. is_otherwise old.which i h) index) in (
      visited.0,
      visited.1 ∙ sym before.0,
      visited.2 ∙ sym before.1,
      more_or old.selects_otherwise c.args.self.now.selects_otherwise _ c.is_otherwise.result (is_otherwise old.which (length d) h) (selects_otherwise old.which 0 d) (selects_otherwise old.which 0 (d ++ h ∷ [])) visited.3 other refl (otherwise_more old.which 0 (length d) d h (omega arith)),
      more_or old.restricts c.args.self.now.restricts _ c.restricts.result (restricts h) (list_any restricts d) (list_any restricts (d ++ h ∷ [])) visited.4 (c.restricts.ensures h refl) refl (any_last restricts d h),
    )
