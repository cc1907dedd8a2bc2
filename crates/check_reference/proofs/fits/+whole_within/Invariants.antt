use Rattle.ip_spec.proofs.Common.{length}
use Rattle.check_reference.proofs.fits.+whole_within.Given as goal

abbrev pub decreases-whole_within : goal.decreases-whole_within
decreases-whole_within l = length l.headers.now
