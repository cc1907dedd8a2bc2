use Rattle.ip_spec.proofs.Common.{arith}
use Rattle.ip_spec.proofs.EncodedLemmas.{fragment_encoded}
use Rattle.ip_ext_headers.proofs.encodable.fragment_encodable.Goals as goal

pub returns : goal.returns
returns c = fragment_encoded _ (omega arith) (omega (arith, c.value-offset.ensures.value, c.value-offset.ensures.fits)) (omega arith)
