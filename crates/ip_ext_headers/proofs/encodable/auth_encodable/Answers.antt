use Rattle.ip_spec.proofs.Common.{◌<◌, arith, All-from_get_or}
use Rattle.ip_spec.proofs.EncodedLemmas.{auth_encoded}
use Rattle.ip_ext_headers.proofs.encodable.auth_encodable.Goals as goal

pub returns : goal.returns
returns c = auth_encoded _ (omega arith) c.requires (All-from_get_or (λ x. x < 256) c.args.raw_icv.now 0 (λ i l. let f = c.type_inv.raw_icv i in omega arith)) (omega arith) (omega arith)
