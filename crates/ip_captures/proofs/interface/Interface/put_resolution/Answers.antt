use Rattle.std.proofs.Common.{◌++◌, ◌∙◌, ◌∷◌, [], ap, arith, refl}
use Rattle.std.proofs.lemmas.Bool.Decides.{nat_tests}
use Rattle.ip_captures.specs.Options.{option_value, options_error}
use Rattle.ip_captures.proofs.WriterLemmas.{error_skips, value_skips}
use Rattle.ip_captures.proofs.interface.Interface.put_resolution.Goals as goal

pub returns-in-Some-clause-right : goal.returns-in-Some-clause-right
returns-in-Some-clause-right c = λ t.
    ap (λ z. options_error c.args.order (z ++ t)) c.put.ensures.put
    ∙ error_skips c.args.order 9 (c.in-Some.code ∷ []) c.resolution_option.result c.resolution_option.ensures (omega arith) t

pub returns-in-Some-clause-offset : goal.returns-in-Some-clause-offset
returns-in-Some-clause-offset c = λ t.
    ap (λ z. option_value c.args.order 14 (z ++ t)) c.put.ensures.put
    ∙ value_skips c.args.order 9 (c.in-Some.code ∷ []) c.resolution_option.result c.resolution_option.ensures (omega arith) t 14 (omega arith)

pub returns-in-None-clause-error : goal.returns-in-None-clause-error
returns-in-None-clause-error c = λ room. (refl, grind (arith, nat_tests, c.if-self-eq1000000.false), c.in-None.ensures.none refl)
