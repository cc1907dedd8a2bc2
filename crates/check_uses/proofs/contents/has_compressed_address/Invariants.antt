use Rattle.ip_spec.proofs.Common.{◌≡◌}
use Rattle.std.proofs.Common.{length, nat_lt}
use Rattle.std.specs.List.{list_any}
use Rattle.ip_ext_headers.specs.Ipv6RawExtHeaderSlice.{bytes}
use Rattle.ip_header_contents.specs.Routing.{IsLayout, addresses_from}
use Rattle.ip_header_contents.specs.RoutingAddresses.{layout, addresses_left}
use Rattle.check_uses.proofs.contents.has_compressed_address.Given as goal

-- no address so far is one
abbrev pub invariant-addresses : goal.invariant-addresses
invariant-addresses l = record {
  can : (goal.iterator-addresses).can_next l.address-iterator;
  ends : (goal.iterator-addresses).is_finite l.address-iterator;
  is_layout : IsLayout (bytes l.header) (layout l.address-iterator);
  left : list_any (λ a. nat_lt (length a) 16) (addresses_from (layout l.address-iterator) (bytes l.header) 0 (layout l.address-iterator).count) ≡ list_any (λ a. nat_lt (length a) 16) (addresses_left l.address-iterator);
}
