-- The fields and the addresses of a routing header (RFC 8200, section 4.4), as plain numbers.
use Rattle.std.specs.Prelude.{◌≡◌, ◌≤◌, ◌<◌, ◌⊎◌, ℕ, List, length}
use Rattle.ip_base.specs.Prefix.{IsPrefix}
use Rattle.ip_spec.specs.Header.{IsRawHeader}
use Rattle.ip_spec.specs.Fields.{next_header}
use Rattle.ip_header_contents.specs.Routing.{IsLayout, routing_type, segments_left, address, expanded}
use Rattle.ip_header_contents.specs.declared.routing_layout.AddressLayout.{AddressLayout}
use Rattle.ip_spans.specs.declared.routing_header.RoutingFields.{RoutingFields}

-- how the addresses lie by these fields
abbrev pub layout_of : RoutingFields → AddressLayout
layout_of x = record { count = x.addresses; len = x.address_len; last_len = x.last_address_len }

-- the addresses of a header's bytes b lie so; or there are none, and all these numbers are 0
abbrev pub AreAddresses : List ℕ → AddressLayout → Type 0
AreAddresses b x = IsLayout b x ⊎ ((x ≡ record { count = 0; len = 0; last_len = 0 }) × ((y : AddressLayout) → IsLayout b y → ⊥))

-- Bytes s start with a routing header with these fields.
pub record StartsWithRoutingHeader (s : List ℕ) (x : RoutingFields) : Type 0 where
  pub bytes : List ℕ
  pub header : IsRawHeader bytes
  pub prefix : IsPrefix bytes s
  pub len : x.len ≡ length bytes
  pub next_header : x.next_header ≡ next_header bytes
  pub routing_type : x.routing_type ≡ routing_type bytes
  pub segments_left : x.segments_left ≡ segments_left bytes
  pub addresses : AreAddresses bytes (layout_of x)

-- Bytes s start with a routing header whose address with index i, expanded by the destination address d, is a.
pub record IsRoutingAddress (s : List ℕ) (i : ℕ) (d a : List ℕ) : Type 0 where
  pub header : List ℕ
  pub is_header : IsRawHeader header
  pub prefix : IsPrefix header s
  pub layout : AddressLayout
  pub lies : IsLayout header layout
  pub within : i < layout.count
  pub is : a ≡ expanded d (address layout header i)

-- Bytes s don't start with a routing header that has an address with index i.
abbrev pub HasNoAddress : List ℕ → ℕ → Type 0
HasNoAddress s i = (b : List ℕ) → IsRawHeader b → IsPrefix b s → (x : AddressLayout) → IsLayout b x → x.count ≤ i
