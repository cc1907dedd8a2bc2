use Rattle.ip_spec.proofs.Common.{bytes_of, cleared_chain}
use Rattle.ip_ext_slices.specs.Ipv6ExtensionsSlice.{headers_in}
use Rattle.ip_ext_slices.specs.Ipv6ExtensionSliceIter.{headers_left}
use Rattle.ip_ext_chains.specs.Clearing.{Clearing}
use Rattle.ip_ext_chains.proofs.borrowed.clear_chain.Given as goal

abbrev pub invariant-headers : goal.invariant-headers
invariant-headers l = Clearing (bytes_of (cleared_chain (headers_in l.fn.headers))) (headers_left l.headers) l.at l.copy
