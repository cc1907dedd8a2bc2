use Rattle.std.proofs.Common.{refl}
use Rattle.ip_hash.specs.SipHash.{finished}
use Rattle.ip_hash.proofs.siphash.finished.Goals as goal

pub returns : goal.returns
unfolding finished
returns c = rw (c.round-last.ensures, c.round-2.ensures, c.round.ensures) refl
