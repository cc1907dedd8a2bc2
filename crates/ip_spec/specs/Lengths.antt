-- The values and the lengths, in bytes, that a header's fields may have.
use Rattle.std.specs.Prelude.{ℕ, ◌≡◌, ◌+◌, ◌≤◌, ◌%◌}

-- of a payload: with the next header and length fields before it, a multiple of 8 bytes, at most 256 units (RFC 8200,
-- sections 4.3, 4.4, 4.6)
pub record IsPayloadLen (n : ℕ) : Type 0 where
  pub least : 6 ≤ n
  pub most : n ≤ 2046
  pub whole : (n + 2) % 8 ≡ 0

-- of an integrity check value: a multiple of 4 bytes, at most 254 units (RFC 4302, sections 2.2 and 2.6)
pub record IsIcvLen (n : ℕ) : Type 0 where
  pub most : n ≤ 1016
  pub whole : n % 4 ≡ 0
