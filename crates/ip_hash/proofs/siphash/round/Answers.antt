use Rattle.std.proofs.Common.{refl}
use Rattle.ip_hash.specs.SipHash.{sip_round}
use Rattle.ip_hash.proofs.siphash.round.Goals as goal

pub returns : goal.returns
unfolding sip_round
returns c = rw (c.rotate_left-6.ensures, c.rotate_left-5.ensures, c.rotate_left-4.ensures, c.rotate_left-3.ensures, c.rotate_left-2.ensures, c.rotate_left.ensures) refl
