use Rattle.ip_spec.proofs.Common.{raw_header, fragment_header, auth_header}
use Rattle.ip_spec.proofs.EncodedLemmas.{one_encoded}
use Rattle.ip_spec.proofs.header_laws.one_encoding.Goals as goal

pub returns : goal.returns
returns c = record { raw = λ v. one_encoded (raw_header v); fragment = λ v. one_encoded (fragment_header v); auth = λ v. one_encoded (auth_header v) }
