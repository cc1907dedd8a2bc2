use Rattle.std.proofs.Common.{[], ◌∷◌, ◌++◌, sym, ap, arith}
use Rattle.std.proofs.lemmas.List.{get_or_past}
use Rattle.ip_codes.specs.CodeWords.{number_words}
use Rattle.ip_codes.proofs.words.number_word.Goals as goal

pub returns-in_default : goal.returns-in_default
returns-in_default c = sym (ap (λ t. t ++ 0 ∷ []) (get_or_past number_words c.args.number [] (omega (arith))))
