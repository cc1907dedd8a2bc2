use Rattle.std.proofs.Common.{rules, ◌∙◌, ◌-◌}
use Rattle.ip_filter.proofs.CompileLemmas.{last_item}
use Rattle.ip_filter.proofs.JoinLemmas.{joined_in_place}
use Rattle.ip_filter.proofs.compile.Compiler.join_early_at.Goals as goal

pub returns-in-Some-clause-joined : goal.returns-in-Some-clause-joined
returns-in-Some-clause-joined c = λ yes frame f g fs few are.
    let some = c.in-Some.ensures.some in
    joined_in_place frame c.args.is_and f g fs c.args.self.now.starts.items _ c.from-first.result c.args.second c.args.self.now.filter.count c.in-Some.count c.args.self.now.filter.tests c.join_early.new.tests
    (search rules) (search rules) (search rules) (search rules) c.from-first.ensures
    (λ rest i is. last_item rest i (c.len-starts.result - 1) 0 c.deref.result.now (c.deref.ensures.0 ∙ is) (search rules)) few some (search rules) (c.in-Some.ensures.decide frame) are
