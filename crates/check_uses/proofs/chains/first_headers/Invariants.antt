use Rattle.ip_ext_slices.specs.Longest.{longest_chain}
use Rattle.ip_ext_slices.specs.Ipv6ExtensionSliceIter.{headers_left}
use Rattle.check_uses.proofs.FirstLemmas.{FirstConsumed}
use Rattle.check_uses.proofs.chains.first_headers.Given as goal

abbrev pub invariant-headers : goal.invariant-headers
invariant-headers l = FirstConsumed (longest_chain l.fn.start.0 l.fn.packet) (headers_left l.headers) l.counter l.len
