-- Marks of units of 8 bytes in bytes.
use Rattle.std.specs.Prelude.{ℕ, ◌*◌, ◌/◌, ◌%◌, ◌^◌, slice_index, List}

-- the mark with this index in a byte, which has four of two bits, the lowest first
abbrev pub byte_mark : ℕ → ℕ → ℕ
byte_mark byte k = byte / 2 ^ (2 * k) % 4

-- the mark of a unit in bytes
abbrev pub mark_of : List ℕ → ℕ → ℕ
mark_of marks i = byte_mark (slice_index marks (i / 4)) (i % 4)
