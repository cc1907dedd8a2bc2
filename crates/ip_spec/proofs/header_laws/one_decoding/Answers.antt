use Rattle.ip_spec.proofs.Common.{refl, inl, raw, fragment, auth, IsRawHeader, IsFragmentHeader, IsAuthHeader, raw_fields, fragment_fields, auth_fields}
use Rattle.ip_spec.proofs.EncodingLemmas.{one_decoding_of}
use Rattle.ip_spec.proofs.header_laws.one_decoding.Goals as goal

pub returns : goal.returns
returns c =
    let of_raw = one_decoding_of 0 IsRawHeader raw_fields (λ b. raw (inl refl)) in
    let of_fragment = one_decoding_of 44 IsFragmentHeader fragment_fields (λ b. fragment refl) in
    let of_auth = one_decoding_of 51 IsAuthHeader auth_fields (λ b. auth refl) in
    record {
      raw = λ s v w r q d e. (of_raw s v w r q d e).0;
      raw_rest = λ s v w r q d e. (of_raw s v w r q d e).1;
      fragment = λ s v w r q d e. (of_fragment s v w r q d e).0;
      fragment_rest = λ s v w r q d e. (of_fragment s v w r q d e).1;
      auth = λ s v w r q d e. (of_auth s v w r q d e).0;
      auth_rest = λ s v w r q d e. (of_auth s v w r q d e).1;
    }
