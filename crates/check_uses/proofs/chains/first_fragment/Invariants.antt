use Rattle.ip_spec.proofs.Common.{◌≡◌, ◌==◌, find, ExtHeader, FRAGMENT}
use Rattle.ip_ext_slices.specs.Longest.{longest_chain}
use Rattle.ip_ext_slices.specs.Ipv6ExtensionsCursor.{headers_left}
use Rattle.check_uses.proofs.chains.first_fragment.Given as goal

-- the first is among the remaining ones
abbrev pub invariant-loop-header : goal.invariant-loop-header
invariant-loop-header l = record {
  can : (goal.iterator-loop-header).can_next l.header-iterator;
  ends : (goal.iterator-loop-header).is_finite l.header-iterator;
  among : find (λ (h : ExtHeader). h.number == FRAGMENT) (headers_left l.header-iterator) ≡ find (λ h. h.number == FRAGMENT) (longest_chain l.fn.start.0 l.fn.packet);
}
