use Rattle.ip_spec.proofs.Common.{length}
use Rattle.check_reference.proofs.fits.+routing_at.Given as goal

abbrev pub decreases-routing_at : goal.decreases-routing_at
decreases-routing_at l = length l.headers.now
