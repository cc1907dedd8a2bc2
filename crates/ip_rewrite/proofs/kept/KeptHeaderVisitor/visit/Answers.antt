use Rattle.ip_spec.proofs.Common.{◌≡◌, ◌+◌, [], ◌∷◌, ◌++◌, true, false, length, refl, subst, sym, ◌∙◌, ap, arith, length-append, List, ExtHeader, bytes_of}
use Rattle.ip_rewrite.specs.Selection.{selects, kept}
use Rattle.ip_rewrite.specs.declared.which.Which.{Which}
use Rattle.ip_rewrite.proofs.FrontLemmas.{more_len}
use Rattle.ip_rewrite.proofs.SelectionLemmas.{left_in, left_out, kept_less}
use Rattle.ip_rewrite.proofs.RequestLemmas.{kept_count}
use Rattle.ip_rewrite.proofs.kept.KeptHeaderVisitor.visit.Goals as goal

pub returns-then-not-selects : goal.returns-then-not-selects
returns-then-not-selects g c = λ old k d visited index at.
    let h : ExtHeader = record { number = c.args.number.0; bytes = c.args.header.now } in
    let which : c.args.self.now.which ≡ old.which = visited.0 in
    let s : selects old.which c.args.index h ≡ false = ap (λ (w : Which). selects w c.args.index h) (sym which) ∙ (sym (c.selects.ensures h refl) ∙ c.if-not-selects.true) in
    let same : kept old.which (d ++ h ∷ []) ≡ kept old.which d ++ h ∷ [] = left_in old.which 0 c.args.index d h (omega (arith, index)) s in (
      which,
      λ first start.
          let before = visited.1 first start in
          let few : c.args.self.now.count ≡ length (kept old.which d) = before.0 (omega (arith, index, c.ranges.index.fits)) in
          let small : c.args.self.now.len ≡ length (bytes_of (kept old.which d)) = before.1 (omega (arith, at, c.ranges._offset.fits)) in
          let count : length (kept old.which (d ++ h ∷ [])) ≡ length (kept old.which d) + 1 = ap length same ∙ length-append (kept old.which d) (h ∷ []) in
          let size : length (bytes_of (kept old.which (d ++ h ∷ []))) ≡ length (bytes_of (kept old.which d)) + length h.bytes = ap (λ e. length (bytes_of e)) same ∙ more_len (kept old.which d) h in (
            λ fits. omega (arith, c.saturating_add-self.ensures, few, count, kept_count old.which 0 (d ++ h ∷ []), fits),
            λ fits. omega (arith, c.saturating_add-self-then-not-selects.ensures, small, size, kept_less old.which 0 (d ++ h ∷ []), fits),
            subst (λ (e : List ExtHeader). g.V.HeaderVisitor.visited old.visitor 0 e c.visit.new.self) (sym same)
                (c.visit.ensures old.visitor 0 (kept old.which d) before.2 few (omega (arith, small))),
          ),
    )

pub returns-else-not-selects : goal.returns-else-not-selects
returns-else-not-selects g c = λ old k d visited index at.
    let h : ExtHeader = record { number = c.args.number.0; bytes = c.args.header.now } in
    let which : c.args.self.now.which ≡ old.which = visited.0 in
    let s : selects old.which c.args.index h ≡ true = ap (λ (w : Which). selects w c.args.index h) (sym which) ∙ (sym (c.selects.ensures h refl) ∙ c.if-not-selects.false) in
    let same : kept old.which (d ++ h ∷ []) ≡ kept old.which d = left_out old.which 0 c.args.index d h (omega (arith, index)) s in (
      which,
      λ first start.
          let before = visited.1 first start in (
            λ fits. before.0 (omega (arith, fits, length-append d (h ∷ []))) ∙ ap length (sym same),
            λ fits. before.1 (omega (arith, fits, more_len d h)) ∙ ap (λ (e : List ExtHeader). length (bytes_of e)) (sym same),
            subst (λ (e : List ExtHeader). g.V.HeaderVisitor.visited old.visitor 0 e c.args.self.now.visitor) (sym same) before.2,
          ),
    )
