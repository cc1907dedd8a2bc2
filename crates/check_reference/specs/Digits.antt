-- Pairs of hexadecimal digits.
use Rattle.std.specs.Prelude.{ℕ, ◌+◌, ◌*◌, Option, None, Some}
use Rattle.hex.specs.Hex.{hex_digit_value}

-- the byte of two digits with these values
abbrev pub byte_of_values : Option ℕ → Option ℕ → Option ℕ
byte_of_values (Some high) (Some low) = Some (high * 16 + low)
byte_of_values (Some high) None = None
byte_of_values None low = None

-- the byte of two digits, of either case
abbrev pub byte_of_digits : ℕ → ℕ → Option ℕ
byte_of_digits high low = byte_of_values (hex_digit_value high) (hex_digit_value low)
