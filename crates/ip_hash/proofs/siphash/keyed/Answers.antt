use Rattle.std.proofs.Common.{refl}
use Rattle.ip_hash.specs.SipHash.{keyed}
use Rattle.ip_hash.proofs.siphash.keyed.Goals as goal

pub returns : goal.returns
unfolding keyed
returns c = refl
