use Rattle.ip_spec.proofs.Common.{◌≡◌, ◌++◌, bytes_of}
use Rattle.ip_ext_slices.specs.Ipv6ExtensionsSlice.{bytes}
use Rattle.ip_ext_slices.specs.Ipv6ExtensionSliceIter.{headers_left}
use Rattle.check_uses.proofs.chains.joined.Given as goal

-- the bytes copied and the remaining ones are the bytes of all headers
abbrev pub invariant-loop-header : goal.invariant-loop-header
invariant-loop-header l = record {
  can : (goal.iterator-loop-header).can_next l.header-iterator;
  ends : (goal.iterator-loop-header).is_finite l.header-iterator;
  joined : l.copy.items ++ bytes_of (headers_left l.header-iterator) ≡ bytes l.fn.headers;
}
