use Rattle.ip_spec.proofs.Common.{◌++◌, length, take, bytes_of, cleared_chain}
use Rattle.ip_ext_slices.specs.Ipv6ExtensionSliceIter.{headers_left}
use Rattle.ip_ext_chains.specs.Clearing.{Clearing}
use Rattle.ip_ext_chains.proofs.RunLemmas.{IsPlacing}
use Rattle.ip_ext_chains.proofs.borrowed.clear_run.Given as goal

abbrev pub invariant-headers : goal.invariant-headers
invariant-headers l = record {
  placing : IsPlacing (headers_left l.fn.headers) (headers_left l.headers) l.places;
  clearing : Clearing (take l.fn.start l.fn.copy ++ bytes_of (cleared_chain (headers_left l.fn.headers))) (headers_left l.headers) l.at l.copy;
}

abbrev pub decreases-headers : goal.decreases-headers
decreases-headers l = length (headers_left l.headers)
