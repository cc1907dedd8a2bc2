-- The fields and the addresses of a routing header (RFC 8200, section 4.4).
use Rattle.std.specs.Prelude.{◌≡◌, ◌≤◌, ◌⊎◌, ℕ, zero, suc, ◌+◌, ◌-◌, ◌*◌, ◌/◌, ◌%◌, List, [], ◌∷◌, ◌++◌, length, take, drop, slice_index, ◌==◌, if◌then◌else◌}
use Rattle.ip_header_contents.specs.declared.routing_layout.AddressLayout.{AddressLayout}

-- its type, and how many segments are left
abbrev pub routing_type : List ℕ → ℕ
routing_type b = slice_index b 2

abbrev pub segments_left : List ℕ → ℕ
segments_left b = slice_index b 3

-- The addresses of a layout lie one after another from byte 8 on. All have `len` bytes except for the last one.
abbrev pub addresses_len : AddressLayout → ℕ
addresses_len x = (x.count - 1) * x.len + x.last_len

abbrev pub address_len : AddressLayout → ℕ → ℕ
address_len x i = if i + 1 == x.count then x.last_len else x.len

-- the address with index i in a header's bytes b
abbrev pub address : AddressLayout → List ℕ → ℕ → List ℕ
address x b i = take (address_len x i) (drop (8 + i * x.len) b)

-- k addresses from index i on
abbrev pub addresses_from : AddressLayout → List ℕ → ℕ → ℕ → List (List ℕ)
addresses_from x b i zero = []
addresses_from x b i (suc k) = address x b i ∷ addresses_from x b (i + 1) k

-- Type 2 (RFC 6275, section 6.4): one address, and nothing after it.
pub record IsHomeLayout (b : List ℕ) (x : AddressLayout) : Type 0 where
  pub header : length b ≡ 24
  pub one : x ≡ record { count = 1; len = 16; last_len = 16 }

-- Type 3 (RFC 6554, section 3): the bytes at the start of an address that are those of the IPv6 destination address are left
-- out. CmprI, the high half of byte 4, says how many, and CmprE, its low half, how many of the last address. Pad, the high
-- half of byte 5, is how many bytes follow the addresses.
pub record IsCompressedLayout (b : List ℕ) (x : AddressLayout) : Type 0 where
  pub some : 1 ≤ x.count
  pub len : x.len ≡ 16 - slice_index b 4 / 16
  pub last_len : x.last_len ≡ 16 - slice_index b 4 % 16
  pub whole : length b ≡ 8 + addresses_len x + slice_index b 5 / 16

-- Type 4 (RFC 8754, section 2): byte 4 is the index of the last address. Other fields may follow the addresses.
pub record IsSegmentLayout (b : List ℕ) (x : AddressLayout) : Type 0 where
  pub fields : x ≡ record { count = slice_index b 4 + 1; len = 16; last_len = 16 }
  pub within : 8 + addresses_len x ≤ length b

-- the addresses of a routing header with bytes b lie so
abbrev pub IsLayout : List ℕ → AddressLayout → Type 0
IsLayout b x =
    ((routing_type b ≡ 2) × IsHomeLayout b x)
    ⊎ (((routing_type b ≡ 3) × IsCompressedLayout b x) ⊎ ((routing_type b ≡ 4) × IsSegmentLayout b x))

-- an address with these last bytes, and the first ones from the IPv6 destination address
abbrev pub expanded : List ℕ → List ℕ → List ℕ
expanded destination last = take (16 - length last) destination ++ last
