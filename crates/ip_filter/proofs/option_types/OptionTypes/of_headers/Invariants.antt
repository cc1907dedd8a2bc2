use Rattle.ip_spec.proofs.Common.{◌≡◌, ℕ, ◌||◌}
use Rattle.std.specs.List.{list_any}
use Rattle.ip_ext_slices.specs.Longest.{longest_chain}
use Rattle.ip_ext_slices.specs.Ipv6ExtensionsCursor.{headers_left}
use Rattle.ip_filter.specs.HeaderFields.{has_option}
use Rattle.ip_filter.specs.OptionTypes.{has_type}
use Rattle.ip_filter.proofs.option_types.OptionTypes.of_headers.Given as goal

-- the types so far are those of the headers before the ones left
abbrev pub invariant-headers : goal.invariant-headers
invariant-headers l = record {
  can : (goal.iterator-headers).can_next l.header-iterator;
  ends : (goal.iterator-headers).is_finite l.header-iterator;
  left : (n : ℕ) → (has_type l.types n || list_any (has_option n) (headers_left l.header-iterator)) ≡ list_any (has_option n) (longest_chain l.fn.first.0 l.fn.bytes);
}
