use Rattle.ip_spec.proofs.Common.{refl, fragment, auth}
use Rattle.ip_spec.proofs.ClearedLemmas.{cleared_encodes}
use Rattle.ip_spec.proofs.header_laws.cleared_header_encodes.Goals as goal

pub returns : goal.returns
returns c = record { raw = search; fragment = λ b h. cleared_encodes 44 b (fragment refl h); auth = λ b h. cleared_encodes 51 b (auth refl h) }
