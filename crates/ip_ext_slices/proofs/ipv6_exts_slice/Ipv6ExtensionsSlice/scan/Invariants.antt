use Rattle.ip_spec.proofs.Common.{length}
use Rattle.ip_ext_slices.proofs.ParseLemmas.{ParseState}
use Rattle.ip_ext_slices.proofs.ipv6_exts_slice.Ipv6ExtensionsSlice.scan.Given as goal

abbrev pub invariant-headers : goal.invariant-headers
invariant-headers l = ParseState l.fn.start.0 l.bytes l.number.0 l.rest l.fragmented

abbrev pub decreases-headers : goal.decreases-headers
decreases-headers l = length l.rest
