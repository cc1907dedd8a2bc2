-- The values of hexadecimal digits.
use Rattle.std.specs.Prelude.{ℕ}
use Rattle.std.specs.Option.{unwrap_or}
use Rattle.hex.specs.Hex.{hex_digit_value}

-- the value of a digit in either case, or 255
unfoldable pub digit_value : ℕ → ℕ
digit_value c = unwrap_or (hex_digit_value c) 255
