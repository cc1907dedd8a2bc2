-- Chains by their length: each multiple of 4 bytes below 256 has a count, and from there each power of two has one.
use Rattle.std.specs.Prelude.{ℕ, ◌+◌, ◌-◌, ◌*◌, ◌^◌, ◌==◌, Bool, nat_lt, not, ◌&&◌, ◌||◌, if◌then◌else◌}

-- the least length in bytes of the chains that the i-th of the 73 counts is for
abbrev pub least_length : ℕ → ℕ
least_length i = if nat_lt i 64 then 4 * i else 2 ^ (i - 56)

-- The i-th count is for chains of n bytes. The last one has no upper bound.
abbrev pub is_for_length : ℕ → ℕ → Bool
is_for_length i n = not (nat_lt n (least_length i)) && ((i == 72) || nat_lt n (least_length (i + 1)))
