use Rattle.std.proofs.Common.{rules, ap, sym, ◌∙◌, ◌+◌, ◌++◌, take, drop, slice_set}
use Rattle.ip_filter.specs.Compiled.{put_first}
use Rattle.ip_filter.proofs.JoinLemmas.{put_next, all_put, zeros}
use Rattle.ip_filter.proofs.join.put_first.Goals as goal

pub tests-preserved : goal.tests-preserved
tests-preserved c =
    let i = c.tests.i in
    let next = slice_set c.tests.tests i c.tests.carried in
    c.tests.invariant ∙ put_next i c.tests.tests c.tests.carried zeros (search rules)
    ∙ ap (λ t. take (i + 1) next ++ put_first t (drop (i + 1) next)) (sym c.shifted-carried.ensures)

pub returns : goal.returns
returns c = sym (c.tests.invariant ∙ all_put c.tests.i c.tests.tests c.tests.carried (search rules))
