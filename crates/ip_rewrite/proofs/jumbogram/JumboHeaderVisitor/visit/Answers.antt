use Rattle.ip_spec.proofs.Common.{◌≡◌, ◌∷◌, [], length, refl, sym, ap, ◌∙◌, arith, eqb-true, ExtHeader}
use Rattle.ip_rewrite.specs.Jumbogram.{stating_offset}
use Rattle.ip_rewrite.proofs.OptionLemmas.{offset_first}
use Rattle.ip_rewrite.proofs.jumbogram.JumboHeaderVisitor.visit.Goals as goal

pub returns-then-eq : goal.returns-then-eq
returns-then-eq c = λ old k d visited index at.
    let h : ExtHeader = record { number = c.args.number.0; bytes = c.args.header.now } in
    let number : h.number ≡ 0 = eqb-true h.number 0 (sym c.eq.ensures ∙ c.if-eq.true) in
    let none : length d ≡ 0 = omega (arith, index, c.if-index-eq0.true) in (
      visited.0,
      λ _. c.offset_stating-self.ensures h [] number refl ∙ (ap (λ n. stating_offset n (h ∷ [])) visited.0 ∙ sym (offset_first old.len d h none)),
    )
