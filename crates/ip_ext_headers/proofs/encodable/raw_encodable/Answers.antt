use Rattle.ip_spec.proofs.Common.{◌<◌, arith, All-from_get_or}
use Rattle.ip_spec.proofs.EncodedLemmas.{raw_encoded}
use Rattle.ip_ext_headers.proofs.encodable.raw_encodable.Goals as goal

pub returns : goal.returns
returns c = raw_encoded _ (omega arith) c.requires (All-from_get_or (λ x. x < 256) c.args.payload.now 0 (λ i l. let f = c.type_inv.payload i in omega arith))
