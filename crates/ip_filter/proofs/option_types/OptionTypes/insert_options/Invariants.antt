use Rattle.ip_spec.proofs.Common.{◌≡◌, ◌==◌, ℕ, ◌||◌}
use Rattle.std.specs.List.{list_any}
use Rattle.ip_header_contents.specs.Options.{options_left}
use Rattle.ip_ext_headers.specs.Ipv6RawExtHeaderSlice.{bytes}
use Rattle.ip_filter.specs.HeaderFields.{has_option_type}
use Rattle.ip_filter.specs.OptionTypes.{has_type}
use Rattle.ip_filter.proofs.option_types.OptionTypes.insert_options.Given as goal

-- the types so far are those of the options before the ones left
abbrev pub invariant-options : goal.invariant-options
invariant-options l = record {
  can : (goal.iterator-options).can_next l.option-iterator;
  ends : (goal.iterator-options).is_finite l.option-iterator;
  left : (n : ℕ) → (has_type l.self n || list_any (λ o. o.option_type == n) (options_left l.option-iterator)) ≡ (has_type l.fn.self n || has_option_type n (bytes l.header));
}
