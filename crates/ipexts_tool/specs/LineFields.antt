-- The fields of a line, and the numbers and bytes that they denote.
use Rattle.std.specs.Prelude.{ℕ, Bool, ◌==◌, List, [], ◌∷◌, Option, None, Some, if◌then◌else◌, codes}
use Rattle.std.specs.List.{slice_split, find, range_with_len}
use Rattle.std.specs.Option.{option_zip}
use Rattle.std.specs.Result.{result_ok}
use Rattle.std.specs.Str.{bytes_eq}
use Rattle.std.specs.Fmt.{decimal}
use Rattle.hex.specs.Hex.{decode_of}

-- whether a byte is a space
abbrev pub is_space : ℕ → Bool
is_space b = b == 32

-- the parts of a text separated by single spaces
abbrev pub spaced_fields : List ℕ → List (List ℕ)
spaced_fields text = slice_split is_space text

-- the number below 256 with the text as its decimal numeral
unfoldable pub decimal_of : List ℕ → Option ℕ
decimal_of text = find (λ n. bytes_eq (decimal n) text) (range_with_len 0 256)

-- the bytes with the text as their hexadecimal digits, in either case: `-` denotes no bytes
abbrev pub bytes_of_hex : List ℕ → Option (List ℕ)
bytes_of_hex [] = None
bytes_of_hex (c ∷ cs) =
    if bytes_eq (c ∷ cs) (codes "-") then Some [] else result_ok (decode_of (c ∷ cs))

-- the number and bytes denoted by two fields `N HEX`
abbrev pub number_and_bytes : List (List ℕ) → Option (ℕ × List ℕ)
number_and_bytes (number ∷ hex ∷ []) = option_zip (decimal_of number) (bytes_of_hex hex)
number_and_bytes _ = None

-- the bytes denoted by one field `HEX`
abbrev pub bytes_alone : List (List ℕ) → Option (List ℕ)
bytes_alone (hex ∷ []) = bytes_of_hex hex
bytes_alone _ = None
