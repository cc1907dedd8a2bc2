use Rattle.std.proofs.Common.{arith, ◌≡◌, ◌∙◌, sym, Some}
use Rattle.std.proofs.lemmas.Bool.Decides.{nat_tests}
use Rattle.ip_captures.specs.Options.{option_len, option_code}
use Rattle.ip_captures.proofs.OptionLemmas.{error_ended}
use Rattle.ip_captures.proofs.options.check_options.Goals as goal

pub returns-then-number-eq0-clause-right : goal.returns-then-number-eq0-clause-right
returns-then-number-eq0-clause-right c =
    let s = c.options.rest.now in
    let len : option_len c.args.order s ≡ Some c.in-Some.len = sym c.in-Some.ensures.len in
    let zero : option_code c.args.order s ≡ 0 = grind (arith, nat_tests, c.if-number-eq0.true, c.u16_at-number.ensures) in
    sym c.options.invariant ∙ error_ended c.args.order 0 s c.in-Some.len len zero
