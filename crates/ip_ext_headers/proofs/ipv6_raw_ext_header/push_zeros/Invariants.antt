use Rattle.std.proofs.Common.{◌≡◌, replicate}
use Rattle.ip_ext_headers.proofs.ipv6_raw_ext_header.push_zeros.Given as goal

abbrev pub invariant-loop : goal.invariant-loop
invariant-loop l = l.payload.items ≡ replicate l.counter 0
