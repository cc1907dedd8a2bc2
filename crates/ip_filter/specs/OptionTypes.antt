-- A set of types of options.
use Rattle.std.specs.Prelude.{◌≡◌, ℕ, List, ◌/◌, ◌%◌, Bool, nat_lt, ◌==◌, ◌&&◌, slice_index}
use Rattle.std.specs.Int.{bit_at}
use Rattle.std.specs.List.{list_any}
use Rattle.ip_spec.specs.Chain.{ExtHeader}
use Rattle.ip_filter.specs.HeaderFields.{has_option}
use Rattle.ip_filter.specs.declared.option_types.OptionTypes.{OptionTypes}

-- The set has the type n, an octet (RFC 8200, section 4.2). Each word has the bits of 64 types.
abbrev pub has_type : OptionTypes → ℕ → Bool
has_type x n = nat_lt n 256 && (bit_at (slice_index x.words (n / 64)) (n % 64) == 1)

-- The set has exactly the types of the options of the headers c.
abbrev pub AreTypesOf : List ExtHeader → OptionTypes → Type 0
AreTypesOf c x = (n : ℕ) → has_type x n ≡ list_any (has_option n) c
