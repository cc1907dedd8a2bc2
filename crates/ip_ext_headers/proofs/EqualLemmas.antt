-- Equality of headers is an equivalence.
use Rattle.ip_spec.proofs.Common.{IsEquivalence, comparing, rules}
use Rattle.ip_ext_headers.specs.HeaderEqual.{raw_equal, fragment_equal, auth_equal}

pub raw_equivalence : IsEquivalence raw_equal
raw_equivalence = search (comparing, rules)

pub fragment_equivalence : IsEquivalence fragment_equal
fragment_equivalence = search (comparing, rules)

pub auth_equivalence : IsEquivalence auth_equal
auth_equivalence = search (comparing, rules)
