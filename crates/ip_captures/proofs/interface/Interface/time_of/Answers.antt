use Rattle.std.proofs.Common.{arith, ◌≡◌, ◌<◌, ◌+◌, ◌*◌, ◌/◌, ◌∙◌, ap, sym}
use Rattle.std.proofs.lemmas.Bool.Decides.{nat_tests}
use Rattle.ip_captures.specs.Interface.{shifted, time_of}
use Rattle.ip_captures.proofs.NumberLemmas.{quotient_by_parts}
use Rattle.ip_captures.proofs.interface.Interface.time_of.Goals as goal

pub returns : goal.returns
returns c =
    let i = c.args.self.now in
    let some : 0 < i.ticks_per_second = omega (arith, c.if-self-eq0.false) in
    let parts = quotient_by_parts 1000000000 c.args.ticks i.ticks_per_second some in
    let time : c.from.result * 1000000000 + c.from-2.result ≡ c.args.ticks * 1000000000 / i.ticks_per_second = omega (arith, c.from.ensures, c.from-2.ensures, c.nanoseconds-fraction.ensures.value, parts) in
    let known : time_of i c.args.ticks ≡ shifted i.offset (c.args.ticks * 1000000000 / i.ticks_per_second) = grind (arith, nat_tests, some) in
    c.shifted.ensures ∙ ap (shifted i.offset) time ∙ sym known
