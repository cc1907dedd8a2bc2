-- The state of an iterator over the addresses of a routing header.
use Rattle.std.specs.Prelude.{◌≡◌, ℕ, ◌+◌, ◌-◌, List, Option, MatchOption}
use Rattle.std.specs.Iterator.{YieldsFirstBy}
use Rattle.ip_header_contents.specs.Routing.{addresses_from}
use Rattle.ip_header_contents.specs.declared.routing_layout.AddressLayout.{AddressLayout}
use Rattle.ip_header_contents.specs.declared.routing_addresses.RoutingAddress.{RoutingAddress}
use Rattle.ip_header_contents.specs.declared.routing_addresses.RoutingAddresses.{RoutingAddresses}

-- the bytes of an address that are in the header
abbrev pub last_bytes : RoutingAddress → List ℕ
last_bytes a = a.suffix.now

-- The header's bytes, the layout, the index of the next address, and the addresses from there on.
abbrev pub routing_bytes : RoutingAddresses → List ℕ
routing_bytes it = it.header.now

abbrev pub layout : RoutingAddresses → AddressLayout
layout it = it.layout

abbrev pub address_index : RoutingAddresses → ℕ
address_index it = it.index

abbrev pub addresses_left : RoutingAddresses → List (List ℕ)
addresses_left it = addresses_from (layout it) (routing_bytes it) (address_index it) ((layout it).count - address_index it)

-- The iterator returns the next address and moves past it, in the same header and layout; at the end it stays.
abbrev pub GivesAddress : RoutingAddresses → Option RoutingAddress → RoutingAddresses → Type 0
GivesAddress a x b =
    YieldsFirstBy last_bytes addresses_left a x b × (routing_bytes b ≡ routing_bytes a) × (layout b ≡ layout a)
    × MatchOption x (address_index b ≡ address_index a) (λ _. address_index b ≡ address_index a + 1)
