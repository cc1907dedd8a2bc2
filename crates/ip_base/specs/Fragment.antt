-- Fragment offsets, in units of 8 bytes (RFC 791, section 3.1; RFC 8200, section 4.5).
use Rattle.std.specs.Prelude.{ℕ, ◌==◌, ◌||◌, not, Bool}

-- the largest: 13 bits
abbrev pub MAX_FRAGMENT_OFFSET : ℕ
MAX_FRAGMENT_OFFSET = 0x1fff

-- The packet is a fragment: more fragments follow, or the offset is not 0.
abbrev pub is_fragment : Bool → ℕ → Bool
is_fragment more offset = more || not (offset == 0)
