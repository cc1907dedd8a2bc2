use Rattle.ip_spec.proofs.Common.{length}
use Rattle.check_reference.proofs.plain_fragment.+first_fragment.Given as goal

abbrev pub decreases-first_fragment : goal.decreases-first_fragment
decreases-first_fragment l = length l.headers.now
