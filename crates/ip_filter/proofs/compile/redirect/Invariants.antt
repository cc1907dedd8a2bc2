use Rattle.std.proofs.Common.{◌≡◌, ◌≤◌}
use Rattle.ip_filter.proofs.CompileLemmas.{redirected_up_to}
use Rattle.ip_filter.proofs.compile.redirect.Given as goal

abbrev pub invariant-tests : goal.invariant-tests
invariant-tests l = record {
  later : l.start ≤ l.i;
  so_far : l.tests ≡ redirected_up_to l.start l.if_met l.if_not l.i l.initial.tests;
}
