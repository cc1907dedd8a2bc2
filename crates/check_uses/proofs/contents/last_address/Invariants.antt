use Rattle.ip_spec.proofs.Common.{◌≡◌, length}
use Rattle.ip_ext_headers.specs.Ipv6RawExtHeaderSlice.{bytes}
use Rattle.ip_header_contents.specs.Routing.{IsLayout}
use Rattle.ip_header_contents.specs.RoutingAddresses.{routing_bytes, layout, addresses_left}
use Rattle.check_uses.proofs.contents.last_address.Given as goal

-- the header and where its addresses are stay the same
abbrev pub invariant-addresses : goal.invariant-addresses
invariant-addresses l = record {
  header : routing_bytes l.addresses ≡ bytes l.header;
  layout : IsLayout (bytes l.header) (layout l.addresses);
}

abbrev pub decreases-addresses : goal.decreases-addresses
decreases-addresses l = length (addresses_left l.addresses)
