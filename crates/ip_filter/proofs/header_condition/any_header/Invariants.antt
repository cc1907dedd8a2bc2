use Rattle.ip_spec.proofs.Common.{◌≡◌}
use Rattle.std.specs.List.{list_any}
use Rattle.ip_ext_slices.specs.Longest.{longest_chain}
use Rattle.ip_ext_slices.specs.Ipv6ExtensionsCursor.{headers_left}
use Rattle.ip_filter.specs.HeaderConditions.{meets_condition}
use Rattle.ip_filter.proofs.header_condition.any_header.Given as goal

-- no header so far meets the condition
abbrev pub invariant-headers : goal.invariant-headers
invariant-headers l = record {
  can : (goal.iterator-headers).can_next l.header-iterator;
  ends : (goal.iterator-headers).is_finite l.header-iterator;
  left : list_any (meets_condition l.condition) (longest_chain l.fn.first.0 l.fn.bytes) ≡ list_any (meets_condition l.condition) (headers_left l.header-iterator);
}
