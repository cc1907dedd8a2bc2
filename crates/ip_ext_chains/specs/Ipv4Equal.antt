-- Equality of IPv4 extension headers: equality of their fields.
use Rattle.std.specs.Prelude.{Bool}
use Rattle.std.specs.Option.{option_eq}
use Rattle.std.specs.Cmp.{IsEquivalence}
use Rattle.std.specs.Cmp.Lexicographic.{options_equiv}
use Rattle.std.proofs.lemmas.Cmp.{on_equiv}
use Rattle.ip_ext_headers.specs.HeaderEqual.{auth_equal}
use Rattle.ip_ext_headers.proofs.EqualLemmas.{auth_equivalence}
use Rattle.ip_ext_chains.specs.declared.ipv4_exts.Ipv4Extensions.{Ipv4Extensions}

abbrev pub ipv4_exts_equal : Ipv4Extensions → Ipv4Extensions → Bool
ipv4_exts_equal a b = option_eq auth_equal a.auth b.auth

-- it is an equivalence
pub ipv4_exts_equivalence : IsEquivalence ipv4_exts_equal
ipv4_exts_equivalence = on_equiv (λ v. v.auth) (options_equiv auth_equivalence)
