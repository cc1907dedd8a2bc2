use Rattle.std.proofs.Common.{◌≤◌, List, length, subst}
use Rattle.ip_filter.specs.declared.filter.Test.{Test}
use Rattle.ip_filter_bpf.proofs.VerdictLemmas as lemmas
use Rattle.ip_filter_bpf.proofs.exactness.verdicts_err_on_one_side.Goals as goal

pub returns-clause-keep : goal.returns-clause-keep
returns-clause-keep c = λ s passes. lemmas.kept c.args.filter.now s (subst (λ (xs : List Test). length xs ≤ 64) c.used_tests.ensures.tests c.used_tests.ensures.len) passes

pub returns-clause-drop : goal.returns-clause-drop
returns-clause-drop c = λ s passes. lemmas.dropped c.args.filter.now s (subst (λ (xs : List Test). length xs ≤ 64) c.used_tests.ensures.tests c.used_tests.ensures.len) passes

pub returns-clause-exact : goal.returns-clause-exact
returns-clause-exact c = λ u s all. lemmas.exact u c.args.filter.now s all
