use Rattle.ip_spec.proofs.Common.{length}
use Rattle.check_reference.proofs.plain_fragment.+has_later.Given as goal

abbrev pub decreases-has_later : goal.decreases-has_later
decreases-has_later l = length l.headers.now
