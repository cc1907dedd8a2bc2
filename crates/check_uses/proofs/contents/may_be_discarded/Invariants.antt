use Rattle.ip_spec.proofs.Common.{◌≡◌, not, drop}
use Rattle.std.proofs.Common.{nat_lt}
use Rattle.std.specs.List.{list_any}
use Rattle.ip_ext_headers.specs.Ipv6RawExtHeaderSlice.{bytes}
use Rattle.ip_header_contents.specs.Options.{options_in, options_left}
use Rattle.check_uses.proofs.contents.may_be_discarded.Given as goal

-- no option so far is one
abbrev pub invariant-options : goal.invariant-options
invariant-options l = record {
  can : (goal.iterator-options).can_next l.option-iterator;
  ends : (goal.iterator-options).is_finite l.option-iterator;
  left : list_any (λ o. not (nat_lt o.option_type 64)) (options_in (drop 2 (bytes l.header))) ≡ list_any (λ o. not (nat_lt o.option_type 64)) (options_left l.option-iterator);
}
