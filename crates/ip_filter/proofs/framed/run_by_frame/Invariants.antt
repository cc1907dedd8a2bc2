use Rattle.std.proofs.Common.{length, ◌-◌, Some}
use Rattle.ip_filter.specs.Frames.{meets_in}
use Rattle.ip_filter.specs.Reached.{IsLedTo}
use Rattle.ip_filter.proofs.framed.run_by_frame.Given as goal

abbrev pub invariant-tests : goal.invariant-tests
invariant-tests l = IsLedTo l.tests (meets_in l.frame (Some l.packet)) l.next

abbrev pub decreases-tests : goal.decreases-tests
decreases-tests l = length l.tests - l.next
