use Rattle.std.proofs.Common.{◌≡◌, ◌++◌, take, drop}
use Rattle.ip_filter.specs.Compiled.{put_first}
use Rattle.ip_filter.proofs.join.put_first.Given as goal

abbrev pub invariant-tests : goal.invariant-tests
invariant-tests l = put_first l.fn.first l.initial.tests ≡ take l.i l.tests ++ put_first l.carried (drop l.i l.tests)
