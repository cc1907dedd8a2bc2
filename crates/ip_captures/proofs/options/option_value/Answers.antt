use Rattle.std.proofs.Common.{arith, ◌≡◌, ◌≢◌, ◌∙◌, sym, Some}
use Rattle.std.proofs.lemmas.Bool.Decides.{nat_tests}
use Rattle.ip_captures.specs.Options.{option_len, option_code, value_len}
use Rattle.ip_captures.proofs.OptionLemmas.{value_ended, value_here}
use Rattle.ip_captures.proofs.options.option_value.Goals as goal

pub returns-then-found-eq0 : goal.returns-then-found-eq0
returns-then-found-eq0 c =
    let s = c.options.rest.now in
    let len : option_len c.args.order s ≡ Some c.in-Some.len = sym c.in-Some.ensures.len in
    let zero : option_code c.args.order s ≡ 0 = grind (arith, nat_tests, c.if-found-eq0.true, c.u16_at-found.ensures) in
    sym (value_ended c.args.order c.args.code s c.in-Some.len len zero) ∙ c.options.invariant

pub returns-then-found-code : goal.returns-then-found-code
returns-then-found-code c =
    let s = c.options.rest.now in
    let len : option_len c.args.order s ≡ Some c.in-Some.len = sym c.in-Some.ensures.len in
    let some : option_code c.args.order s ≢ 0 = grind (arith, nat_tests, c.if-found-eq0.false, c.u16_at-found.ensures) in
    let here : option_code c.args.order s ≡ c.args.code = grind (arith, nat_tests, c.if-found-code.true, c.u16_at-found.ensures) in
    let value : c.from-value_len.result ≡ value_len c.args.order s = c.from-value_len.ensures ∙ c.u16_at.ensures in
    rw value (sym (value_here c.args.order c.args.code s c.in-Some.len len some here) ∙ c.options.invariant)
