use Rattle.std.proofs.Common.{refl}
use Rattle.ip_hash.specs.SipHash.{sip_word}
use Rattle.ip_hash.proofs.siphash.with_word.Goals as goal

pub returns : goal.returns
unfolding sip_word
returns c = rw c.round-after.ensures refl
