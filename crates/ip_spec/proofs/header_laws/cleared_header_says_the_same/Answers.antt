use Rattle.ip_spec.proofs.Common.{refl, fragment, auth}
use Rattle.ip_spec.proofs.HeaderLemmas.{fragment_of, auth_of}
use Rattle.ip_spec.proofs.ClearedLemmas.{cleared_same}
use Rattle.ip_spec.proofs.EncodedLemmas.{same_fragment, same_auth}
use Rattle.ip_spec.proofs.header_laws.cleared_header_says_the_same.Goals as goal

pub returns : goal.returns
returns c = record {
  fragment = λ b h. let s = cleared_same b 44 (fragment refl h) in (fragment_of 44 _ refl s.header, same_fragment _ _ s.fields, s.again);
  auth = λ b h. let s = cleared_same b 51 (auth refl h) in (auth_of 51 _ refl s.header, same_auth _ _ s.fields, s.again);
}
