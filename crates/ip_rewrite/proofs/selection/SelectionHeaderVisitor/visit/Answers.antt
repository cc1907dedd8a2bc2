use Rattle.ip_spec.proofs.Common.{◌≡◌, ◌+◌, ℕ, [], ◌∷◌, ◌++◌, length, refl, ◌∙◌, ap, arith, ExtHeader, bytes_of}
use Rattle.ip_rewrite.specs.Writing.{facts_of, selection_after, selection_with}
use Rattle.ip_rewrite.proofs.FrontLemmas.{more_len}
use Rattle.ip_rewrite.proofs.SelectionLemmas.{selection_more, selection_fits}
use Rattle.ip_rewrite.specs.declared.selection.Selection.{Selection}
use Rattle.ip_rewrite.specs.declared.selection.HeaderFacts.{HeaderFacts}
use Rattle.ip_rewrite.proofs.selection.SelectionHeaderVisitor.visit.Goals as goal

pub returns : goal.returns
returns c = λ old k d visited index at fits.
    let h : ExtHeader = record { number = c.args.number.0; bytes = c.args.header.now } in
    let more : length (bytes_of (d ++ h ∷ [])) ≡ length (bytes_of d) + length h.bytes = more_len d h in
    let before : c.args.self.now ≡ selection_after old d = visited (omega (arith, more, fits)) in
    let facts : c.facts_of-facts.result ≡ facts_of old.which (length d) h =
    c.facts_of-facts.ensures h refl ∙ (ap (λ (v : Selection). facts_of v.which c.args.index h) before ∙ ap (λ (j : ℕ). facts_of old.which j h) index) in
    let small = selection_fits old d h (omega (arith, fits)) in
    c.add.ensures (omega (arith, small, more, fits, ap (λ (v : Selection). v.kept_len) before, ap (λ (f : HeaderFacts). f.len) facts))
    ∙ (ap (λ (v : Selection). selection_with v c.facts_of-facts.result) before ∙ (ap (selection_with (selection_after old d)) facts ∙ selection_more old d h))
