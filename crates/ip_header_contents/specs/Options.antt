-- The options of a hop-by-hop or destination options header (RFC 8200, section 4.2).
use Rattle.std.specs.Prelude.{◌≡◌, ℕ, zero, suc, ◌+◌, ◌/◌, List, [], ◌∷◌, length, take, drop, Option, MatchOption, Bool, not, ◌==◌, nat_le, bit_and, if◌then◌else◌}
use Rattle.std.specs.List.{flat_map}
use Rattle.std.specs.Iterator.{YieldsFirstBy}
use Rattle.ip_base.specs.Prefix.{IsPrefix}
use Rattle.ip_header_contents.specs.declared.header_option.HeaderOption.{HeaderOption}
use Rattle.ip_header_contents.specs.declared.header_options.HeaderOptions.{HeaderOptions}
use Rattle.ip_header_contents.specs.declared.header_option.UnknownOption.{UnknownOption}
use Rattle.ip_header_contents.specs.declared.header_option.UnknownOption.TheVariants.{Skip, Discard, Report, ReportUnlessMulticast}

abbrev pub PAD_1 : ℕ
PAD_1 = 0

-- the type of an option, and its data
pub record OptionFields : Type 0 where
  pub option_type : ℕ
  pub value : List ℕ

abbrev pub pad_1 : OptionFields
pad_1 = record { option_type = PAD_1; value = [] }

-- The bytes of an option: Pad1 is one byte, its type. Any other option is its type, the length of its data, and the data.
abbrev pub option_bytes : OptionFields → List ℕ
option_bytes o = if o.option_type == PAD_1 then PAD_1 ∷ [] else o.option_type ∷ length o.value ∷ o.value

-- Bytes b start with the option o. Pad1 has no data.
pub record StartsWithOption (b : List ℕ) (o : OptionFields) : Type 0 where
  pub pad : o.option_type ≡ PAD_1 → o.value ≡ []
  pub prefix : IsPrefix (option_bytes o) b

-- The options in bytes b after the first `skipped` bytes, one after another. One that goes past the end is malformed: neither
-- it nor anything after it is an option.
unfoldable pub options_after : ℕ → List ℕ → List OptionFields
options_after skipped [] = []
options_after (suc k) (b ∷ bs) = options_after k bs
options_after zero (t ∷ []) = if t == PAD_1 then pad_1 ∷ [] else []
options_after zero (t ∷ len ∷ rest) =
    if t == PAD_1 then pad_1 ∷ options_after 0 (len ∷ rest)
    else if nat_le len (length rest) then record { option_type = t; value = take len rest } ∷ options_after len rest
    else []

abbrev pub options_in : List ℕ → List OptionFields
options_in b = options_after 0 b

-- how many bytes options have
abbrev pub options_len : List OptionFields → ℕ
options_len xs = length (flat_map option_bytes xs)

-- The two highest bits of the type say what a node does with a packet if it doesn't know the option: 00, 01, 10, 11.
abbrev pub unknown_option : ℕ → UnknownOption
unknown_option t =
    if t / 64 == 0 then Skip
    else if t / 64 == 1 then Discard
    else if t / 64 == 2 then Report
    else ReportUnlessMulticast

-- The next bit says that the data can change on the way.
abbrev pub may_change : ℕ → Bool
may_change t = not (bit_and t 0x20 == 0)

-- of a borrowed option
abbrev pub option_of : HeaderOption → OptionFields
option_of o = record { option_type = o.option_type; value = o.«data».now }

-- The header's bytes, the position in them, and the options from there on.
abbrev pub header_bytes : HeaderOptions → List ℕ
header_bytes it = it.header.now

abbrev pub position : HeaderOptions → ℕ
position it = it.offset

abbrev pub options_left : HeaderOptions → List OptionFields
options_left it = options_in (drop (position it) (header_bytes it))

-- The iterator returns the next option and moves past it; at the end it stays.
abbrev pub GivesOption : HeaderOptions → Option HeaderOption → HeaderOptions → Type 0
GivesOption a x b =
    YieldsFirstBy option_of options_left a x b × (header_bytes b ≡ header_bytes a)
    × MatchOption x (position b ≡ position a) (λ o. position b ≡ position a + length (option_bytes (option_of o)))
