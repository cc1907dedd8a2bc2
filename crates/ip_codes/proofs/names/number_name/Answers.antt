use Rattle.std.proofs.Common.{[], ◌∷◌, ◌++◌, sym, ap, arith}
use Rattle.std.proofs.lemmas.List.{get_or_past}
use Rattle.ip_codes.specs.CodeNames.{number_names}
use Rattle.ip_codes.proofs.names.number_name.Goals as goal

pub returns-in_default : goal.returns-in_default
returns-in_default c = sym (ap (λ t. t ++ 0 ∷ []) (get_or_past number_names c.args.number [] (omega (arith))))
