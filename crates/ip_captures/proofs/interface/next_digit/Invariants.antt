use Rattle.std.proofs.Common.{◌≡◌, ◌+◌, ◌*◌}
use Rattle.ip_captures.proofs.interface.next_digit.Given as goal

abbrev pub invariant-digits : goal.invariant-digits
invariant-digits l = l.digit * l.divisor + l.left ≡ l.rest * 10
