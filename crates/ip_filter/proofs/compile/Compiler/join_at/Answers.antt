use Rattle.std.proofs.Common.{sym, ap, subst, length, ◌≤◌, ◌∙◌, ◌≡◌, ℕ, [], ◌∷◌, ◌++◌, take, drop, if◌then◌else◌}
use Rattle.ip_filter.specs.Program.{tests_of}
use Rattle.ip_filter.specs.Compiled.{AreCompiled, redirected_from}
use Rattle.ip_filter.proofs.CompileLemmas.{in_order}
use Rattle.ip_filter.proofs.compile.Compiler.join_at.Goals.{then-is_and, else-is_and}
use Rattle.ip_filter.proofs.compile.Compiler.join_at.Goals as goal

pub returns : goal.returns
returns c = λ frame f g fs few are.
    let j = c.args.second in
    let xs = tests_of c.args.self.now.filter in
    let met : c.if-is_and.if_met.0 ≡ (if c.args.is_and then j else 64) = elim c.if-is_and.branch [
      | then-is_and w ↦ ap (λ (p : ℕ × ℕ). p.0) w.if_met-is ∙ ap (λ b. if b then j else 64) (sym w.if-is_and.true)
      | else-is_and w ↦ ap (λ (p : ℕ × ℕ). p.0) w.if_met-is ∙ ap (λ b. if b then j else 64) (sym w.if-is_and.false)
    ] in
    let not_met : c.if-is_and.if_met.1 ≡ (if c.args.is_and then 65 else j) = elim c.if-is_and.branch [
      | then-is_and w ↦ ap (λ (p : ℕ × ℕ). p.1) w.if_met-is ∙ ap (λ b. if b then 65 else j) (sym w.if-is_and.true)
      | else-is_and w ↦ ap (λ (p : ℕ × ℕ). p.1) w.if_met-is ∙ ap (λ b. if b then 65 else j) (sym w.if-is_and.false)
    ] in
    let none = c.join_early_at.ensures.none c.if-join_early_at.false in
    let same : c.redirect.new.self.starts.items ≡ c.args.self.now.starts.items = c.redirect.ensures.starts ∙ ap (λ x. x.starts.items) none in
    in_order frame c.args.is_and f g fs c.redirect.new.self.starts.items j xs (tests_of c.redirect.new.self.filter) few
    (λ rest i is before within. c.redirect.ensures.tests rest i (ap (λ x. x.starts.items) none ∙ sym same ∙ is) (subst (λ k. i ≤ k) (sym c.from-2.ensures) before)
    (subst (λ x. c.from-2.result ≤ length (tests_of x.filter)) (sym none) (subst (λ k. k ≤ length xs) (sym c.from-2.ensures) within))
    ∙ ap (λ x. redirected_from i c.if-is_and.if_met.0 c.if-is_and.if_met.1 (take c.from-2.result (tests_of x.filter)) ++ drop c.from-2.result (tests_of x.filter)) none
    ∙ ap (λ k. redirected_from i c.if-is_and.if_met.0 c.if-is_and.if_met.1 (take k xs) ++ drop k xs) c.from-2.ensures
    ∙ ap (λ a. redirected_from i a c.if-is_and.if_met.1 (take j xs) ++ drop j xs) met ∙ ap (λ b. redirected_from i (if c.args.is_and then j else 64) b (take j xs) ++ drop j xs) not_met)
    (subst (λ st. AreCompiled frame (g ∷ f ∷ fs) (st ++ j ∷ []) xs) (sym same) are)
