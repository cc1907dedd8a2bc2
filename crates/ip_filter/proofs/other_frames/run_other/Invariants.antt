use Rattle.std.proofs.Common.{length, ◌-◌, false}
use Rattle.ip_filter.specs.Reached.{IsLedTo}
use Rattle.ip_filter.proofs.other_frames.run_other.Given as goal

abbrev pub invariant-tests : goal.invariant-tests
invariant-tests l = IsLedTo l.tests (λ x. false) l.next

abbrev pub decreases-tests : goal.decreases-tests
decreases-tests l = length l.tests - l.next
