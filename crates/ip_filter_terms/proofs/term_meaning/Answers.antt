use Rattle.std.proofs.Common.{[], ◌∷◌, ◌++◌, sym, ap, arith}
use Rattle.std.proofs.lemmas.List.{get_or_past}
use Rattle.ip_filter_terms.specs.Table.{term_meanings}
use Rattle.ip_filter_terms.proofs.term_meaning.Goals as goal

pub returns-in_default : goal.returns-in_default
returns-in_default c = sym (ap (λ t. t ++ 0 ∷ []) (get_or_past term_meanings c.args.index [] (omega (arith))))
