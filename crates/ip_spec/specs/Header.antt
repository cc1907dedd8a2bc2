-- The bytes that are exactly one extension header (RFC 8200, section 4; RFC 4302, section 2).
use Rattle.std.specs.Prelude.{◌≡◌, ℕ, ◌+◌, ◌*◌, ◌≤◌, List, length, slice_index, ◌⊎◌}
use Rattle.ip_spec.specs.Numbers.{HOP_BY_HOP, ROUTING, FRAGMENT, AUTHENTICATION, DESTINATION_OPTIONS}

-- Hop-by-hop options, routing, destination options (RFC 8200, sections 4.3, 4.4, 4.6): byte 1 is the length in units
-- of 8 bytes, without the first unit.
pub record IsRawHeader (b : List ℕ) : Type 0 where
  pub len : length b ≡ 8 * (slice_index b 1 + 1)

-- A fragment header (RFC 8200, section 4.5) has 8 bytes.
pub record IsFragmentHeader (b : List ℕ) : Type 0 where
  pub len : length b ≡ 8

-- An authentication header (RFC 4302, section 2.2): byte 1, which is not 0, is the length in units of 4 bytes,
-- without the first two units.
pub record IsAuthHeader (b : List ℕ) : Type 0 where
  pub not_zero : 1 ≤ slice_index b 1
  pub len : length b ≡ 4 * (slice_index b 1 + 2)

-- the numbers of the three headers in the uniform format (RFC 6564)
abbrev pub IsRawNumber : ℕ → Type 0
IsRawNumber n = (n ≡ HOP_BY_HOP) ⊎ ((n ≡ ROUTING) ⊎ (n ≡ DESTINATION_OPTIONS))

-- these numbers, and those of fragment and authentication headers
abbrev pub IsExtensionNumber : ℕ → Type 0
IsExtensionNumber n = IsRawNumber n ⊎ ((n ≡ FRAGMENT) ⊎ (n ≡ AUTHENTICATION))

-- the numbers of the headers that may follow another: all but hop-by-hop options (RFC 8200, section 4.1)
abbrev pub IsLaterNumber : ℕ → Type 0
IsLaterNumber n = (n ≡ ROUTING) ⊎ ((n ≡ FRAGMENT) ⊎ ((n ≡ AUTHENTICATION) ⊎ (n ≡ DESTINATION_OPTIONS)))

-- bytes b are exactly one header of number n
pub data IsHeader (n : ℕ) (b : List ℕ) : Type 0 where
  raw : IsRawNumber n → IsRawHeader b → IsHeader n b
  fragment : n ≡ FRAGMENT → IsFragmentHeader b → IsHeader n b
  auth : n ≡ AUTHENTICATION → IsAuthHeader b → IsHeader n b
