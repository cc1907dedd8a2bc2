use Rattle.ip_spec.proofs.Common.{◌≡◌, ◌+◌, ◌≤◌, List, true, false, [], ◌∷◌, ◌++◌, length, refl, subst, sym, ◌∙◌, ap, arith, length-append, ExtHeader, bytes_of}
use Rattle.ip_rewrite.specs.Planning.{chosen}
use Rattle.ip_rewrite.specs.Selection.{selects, kept}
use Rattle.ip_rewrite.specs.Writing.{AreWritten}
use Rattle.ip_rewrite.specs.declared.which.Which.{Which}
use Rattle.ip_rewrite.specs.declared.writer.Choice.{Choice}
use Rattle.ip_rewrite.proofs.SelectionLemmas.{left_in, left_out}
use Rattle.ip_rewrite.proofs.RequestLemmas.{kept_count, chosen_less}
use Rattle.ip_rewrite.proofs.writer.WriterHeaderVisitor.visit.Goals as goal

pub returns-then-not-selects : goal.returns-then-not-selects
returns-then-not-selects c = λ old k d visited index at.
    let h : ExtHeader = record { number = c.args.number.0; bytes = c.args.header.now } in
    let s : selects old.which c.args.index h ≡ false = ap (λ (w : Which). selects w c.args.index h) (sym visited.1) ∙ (sym (c.selects.ensures h refl) ∙ c.if-not-selects.true) in
    let same : kept old.which (d ++ h ∷ []) ≡ kept old.which d ++ h ∷ [] = left_in old.which 0 c.args.index d h (omega (arith, index)) s in
    let x : List ExtHeader = kept old.which d in
    let place : old.count ≡ 0 → c.args.self.now.count ≡ length x = λ first. visited.3 first (omega (arith, index, c.ranges.index.fits)) in (
      c.push.ensures.same ∙ visited.0,
      c.push.ensures.which ∙ visited.1,
      c.push.ensures.choice ∙ visited.2,
      λ first few. omega (arith, c.saturating_add-self.ensures, place first, ap (λ (e : List ExtHeader). length e) same, length-append x (h ∷ []), kept_count old.which 0 (d ++ h ∷ []), few),
      λ l b buffer e first w fits small.
          let room : length b + length (bytes_of (e ++ chosen old.choice (x ++ h ∷ []))) ≤ length buffer = subst (λ (y : List ExtHeader). length b + length (bytes_of (e ++ chosen old.choice y)) ≤ length buffer) same fits in
          let before : AreWritten l b buffer (e ++ chosen old.choice x) c.args.self.now.out.now c.args.self.now.len c.args.self.now.link =
          visited.4 l b buffer e first w (omega (arith, room, chosen_less old.choice e x h)) small in
          let now : AreWritten l b buffer (e ++ chosen c.args.self.now.choice x) c.args.self.now.out.now c.args.self.now.len c.args.self.now.link =
          subst (λ (v : Choice). AreWritten l b buffer (e ++ chosen v x) c.args.self.now.out.now c.args.self.now.len c.args.self.now.link) (sym visited.2) before in
          let wide : length b + length (bytes_of (e ++ chosen c.args.self.now.choice (x ++ h ∷ []))) ≤ length buffer =
          subst (λ (v : Choice). length b + length (bytes_of (e ++ chosen v (x ++ h ∷ []))) ≤ length buffer) (sym visited.2) room in
          subst (λ (y : List ExtHeader). AreWritten l b buffer (e ++ chosen old.choice y) c.push.new.self.out.now c.push.new.self.len c.push.new.self.link) (sym same)
          (subst (λ (v : Choice). AreWritten l b buffer (e ++ chosen v (x ++ h ∷ [])) c.push.new.self.out.now c.push.new.self.len c.push.new.self.link) visited.2
          (c.push.ensures.written l b buffer e x h refl (place first) now wide small)),
    )

pub returns-else-not-selects : goal.returns-else-not-selects
returns-else-not-selects c = λ old k d visited index at.
    let h : ExtHeader = record { number = c.args.number.0; bytes = c.args.header.now } in
    let s : selects old.which c.args.index h ≡ true = ap (λ (w : Which). selects w c.args.index h) (sym visited.1) ∙ (sym (c.selects.ensures h refl) ∙ c.if-not-selects.false) in
    let same : kept old.which (d ++ h ∷ []) ≡ kept old.which d = left_out old.which 0 c.args.index d h (omega (arith, index)) s in (
      visited.0,
      visited.1,
      visited.2,
      λ first few. visited.3 first (omega (arith, few, length-append d (h ∷ []))) ∙ ap (λ (e : List ExtHeader). length e) (sym same),
      λ l b buffer e first w fits small.
          subst (λ (y : List ExtHeader). AreWritten l b buffer (e ++ chosen old.choice y) c.args.self.now.out.now c.args.self.now.len c.args.self.now.link) (sym same)
          (visited.4 l b buffer e first w (subst (λ (y : List ExtHeader). length b + length (bytes_of (e ++ chosen old.choice y)) ≤ length buffer) same fits) small),
    )
