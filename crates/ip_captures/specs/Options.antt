-- The options of a block (draft-ietf-opsawg-pcapng, section 3.5).
use Rattle.std.specs.Prelude.{◌≡◌, ◌≤◌, ℕ, ◌+◌, ◌-◌, ◌*◌, ◌/◌, ◌==◌, List, [], ◌∷◌, length, drop, slice_range, Option, Some, None, ◌&&◌, nat_le, Bool, true, false, if◌then◌else◌}
use Rattle.std.specs.List.{concat}
use Rattle.ip_captures.specs.Numbers.{short_number_at}
use Rattle.ip_captures.specs.Pieces.{pieces_in}
use Rattle.ip_captures.specs.declared.byte_order.ByteOrder.{ByteOrder}
use Rattle.ip_captures.specs.declared.err.BlockError.{BlockError}
use Rattle.ip_captures.specs.declared.err.BlockError.TheVariants as error

-- so many bytes, padded to a multiple of 4
abbrev pub padded : ℕ → ℕ
padded n = (n + 3) / 4 * 4

-- the code of an option and the length of its value
abbrev pub option_code : ByteOrder → List ℕ → ℕ
option_code o p = short_number_at o p 0

abbrev pub value_len : ByteOrder → List ℕ → ℕ
value_len o p = short_number_at o p 2

-- The bytes are one option: its code, the length of its value, and that value, padded.
pub record IsOption (o : ByteOrder) (p : List ℕ) : Type 0 where
  pub header : 4 ≤ length p
  pub len : length p ≡ 4 + padded (value_len o p)

-- the length of the option that begins the bytes, if one does
abbrev pub option_len : ByteOrder → List ℕ → Option ℕ
option_len o s = if nat_le 4 (length s) && nat_le (4 + padded (value_len o s)) (length s) then Some (4 + padded (value_len o s)) else None

-- the order of a block's bytes holds for each of its options
abbrev pub same_order : ByteOrder → List ℕ → ByteOrder
same_order o p = o

-- the value of the first option with a code, before the end of the options (code 0)
abbrev pub value_among : ByteOrder → ℕ → List (List ℕ) → Option (List ℕ)
value_among o code [] = None
value_among o code (p ∷ ps) = if option_code o p == 0 then None else if option_code o p == code then Some (slice_range p 4 (4 + value_len o p)) else value_among o code ps

-- that value in the longest list of options that begins the bytes
abbrev pub option_value : ByteOrder → ℕ → List ℕ → Option (List ℕ)
option_value o code s = value_among o code (pieces_in option_len same_order o s)

-- one of the options is their end (code 0)
abbrev pub has_end : ByteOrder → List (List ℕ) → Bool
has_end o [] = false
has_end o (p ∷ ps) = if option_code o p == 0 then true else has_end o ps

-- the option that begins the bytes states more than they have: its code and length are there
abbrev pub truncated_option : ByteOrder → List ℕ → Option BlockError
truncated_option o s = if nat_le 4 (length s) then Some (error.LongOption (value_len o s) (length s - 4)) else None

-- What is wrong with the options of a block: none of the whole ones is their end, and the bytes after them begin an option.
abbrev pub options_error : ByteOrder → List ℕ → Option BlockError
options_error o s =
    let options = pieces_in option_len same_order o s in
    if has_end o options then None else truncated_option o (drop (length (concat options)) s)
