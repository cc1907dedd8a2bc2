use Rattle.std.proofs.Common.{length, ◌-◌}
use Rattle.ip_dissect.specs.Dissection.{dissected}
use Rattle.ip_filter.specs.Tests.{meets}
use Rattle.ip_filter.specs.Reached.{IsLedTo}
use Rattle.ip_filter.proofs.run.run_by_base.Given as goal

abbrev pub invariant-tests : goal.invariant-tests
invariant-tests l = IsLedTo l.tests (λ x. meets x (dissected l.start.bytes.now)) l.next

abbrev pub decreases-tests : goal.decreases-tests
decreases-tests l = length l.tests - l.next
