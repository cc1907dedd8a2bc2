use Rattle.std.proofs.Common.{◌≡◌, length}
use Rattle.ip_filter.specs.Numbers.{names_in, with_flags}
use Rattle.ip_filter.proofs.tcp_flags.parse_list.Given as goal

-- the flags so far, and those that the rest of the list names
abbrev pub invariant-names : goal.invariant-names
invariant-names l = with_flags l.flags (names_in l.rest) ≡ with_flags 0 (names_in l.list)

abbrev pub decreases-names : goal.decreases-names
decreases-names l = length l.rest
