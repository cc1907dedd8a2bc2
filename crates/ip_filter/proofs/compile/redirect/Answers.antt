use Rattle.std.proofs.Common.{arith, add-one, ap, sym, ◌∙◌, slice_set, slice_index_or}
use Rattle.ip_filter.specs.Compiled.{redirected}
use Rattle.ip_filter.proofs.CompileLemmas.{redirected_up_to, one_redirected}
use Rattle.ip_filter.specs.declared.filter.Test.{Test}
use Rattle.ip_filter.proofs.compile.redirect.Goals as goal

-- what is read past the end
abbrev zeros : Test
zeros = record { number = 0; address_high = 0; address_low = 0; kind = 0; comparison = 0; version = 0; prefix_len = 0; if_met = 0; if_not = 0 }

pub tests-preserved : goal.tests-preserved
tests-preserved c =
    let to : Test → Test = redirected c.args.if_met c.args.if_not in
    let i = c.tests.i in
    record {
      later = omega (arith, c.tests.invariant.later);
      so_far = ap (slice_set c.tests.tests i) c.redirected.ensures ∙ ap (λ ys. slice_set ys i (to (slice_index_or ys i zeros))) c.tests.invariant.so_far
          ∙ one_redirected c.args.if_met c.args.if_not c.args.start i c.args.tests.now zeros c.tests.invariant.later c.tests-test.true
          ∙ ap (λ j. redirected_up_to c.args.start c.args.if_met c.args.if_not j c.args.tests.now) (sym (add-one i));
    }
