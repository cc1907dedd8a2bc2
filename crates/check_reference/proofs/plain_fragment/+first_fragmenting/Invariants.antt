use Rattle.ip_spec.proofs.Common.{length}
use Rattle.check_reference.proofs.plain_fragment.+first_fragmenting.Given as goal

abbrev pub decreases-first_fragmenting : goal.decreases-first_fragmenting
decreases-first_fragmenting l = length l.headers.now
