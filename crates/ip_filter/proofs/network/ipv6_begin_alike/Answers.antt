use Rattle.ip_spec.proofs.Common.{arith}
use Rattle.ip_filter.proofs.NetworkLemmas.{first_half_tells, both_halves_tell}
use Rattle.ip_filter.proofs.network.ipv6_begin_alike.Goals as goal

pub returns-in-1-to-64 : goal.returns-in-1-to-64
returns-in-1-to-64 c = rw (c.begin_alike.ensures, c.halves-first.ensures.first, c.halves-other_first.ensures.first) (first_half_tells c.args.address c.args.other c.args.len (omega (arith, c.in-1-to-64)))

pub returns-in_default : goal.returns-in_default
returns-in_default c = rw (c.begin_alike-in_default.ensures, c.halves-first.ensures.first, c.halves-other_first.ensures.first, c.halves-first.ensures.last, c.halves-other_first.ensures.last, c.saturating_sub.ensures) (both_halves_tell c.args.address c.args.other c.args.len (omega (arith, c.in_default)))
