use Rattle.ip_ext_chains.specs.Ipv6Extensions.{placed_fields}
use Rattle.ip_ext_chains.specs.ExtsWalk.{Walked}
use Rattle.ip_ext_chains.proofs.WalkedLemmas.{headers_left}
use Rattle.ip_ext_chains.proofs.ipv6_exts.Ipv6Extensions.next_header.Given as goal

abbrev pub invariant-headers : goal.invariant-headers
invariant-headers l = Walked (placed_fields l.self) l.fn.first.0 l.walk

abbrev pub decreases-headers : goal.decreases-headers
decreases-headers l = headers_left l.walk
