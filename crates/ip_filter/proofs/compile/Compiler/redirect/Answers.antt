use Rattle.std.proofs.Common.{subst, rules, ◌∙◌, ◌≡◌, ◌≤◌, ◌-◌, length, take}
use Rattle.ip_filter.specs.Compiled.{redirected_from}
use Rattle.ip_filter.proofs.CompileLemmas.{last_item, front_redirected}
use Rattle.ip_filter.proofs.compile.Compiler.redirect.Goals as goal

pub returns-clause-tests : goal.returns-clause-tests
returns-clause-tests c = λ rest i is before within.
    let all = c.args.self.now.filter.tests in
    let start : c.from-start.result ≡ i = c.from-start.ensures ∙ last_item rest i (c.len-count.result - 1) 0 c.deref.result.now (c.deref.ensures.0 ∙ is) (search rules) in
    front_redirected c.args.self.now.filter.count c.args.end c.min.result i c.args.if_met c.args.if_not all c.redirect.new.tests (search rules) c.min.ensures within before
    (subst (λ k. k ≤ length (take c.min.result all) → c.redirect.new.tests ≡ redirected_from k c.args.if_met c.args.if_not (take c.min.result all)) start c.redirect.ensures)
