use Rattle.ip_spec.proofs.Common.{length}
use Rattle.ip_ext_slices.specs.Ipv6ExtensionSliceIter.{headers_left}
use Rattle.ip_ext_chains.proofs.RunLemmas.{IsPlacing}
use Rattle.ip_ext_chains.proofs.run.take_run.Given as goal

abbrev pub invariant-headers : goal.invariant-headers
invariant-headers l = IsPlacing (headers_left l.fn.headers) (headers_left l.headers) l.places

abbrev pub decreases-headers : goal.decreases-headers
decreases-headers l = length (headers_left l.headers)
