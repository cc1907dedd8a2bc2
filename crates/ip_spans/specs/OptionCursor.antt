-- A step along the options of a header (RFC 8200, section 4.2), in plain fields for C callers.
use Rattle.std.specs.Prelude.{◌≡◌, ℕ, ◌+◌, ◌-◌, ◌/◌, List, length, take, drop}
use Rattle.ip_header_contents.specs.Options.{OptionFields, StartsWithOption, option_bytes, may_change}
use Rattle.ip_spans.specs.ChainParts.{flag}
use Rattle.ip_spans.specs.declared.option_cursor.OptionSpan.{OptionSpan}
use Rattle.ip_spans.specs.declared.option_cursor.OptionCursor.{OptionCursor}

-- the bytes of s from the cursor's offset to its end
abbrev pub header_rest : OptionCursor → List ℕ → List ℕ
header_rest at s = drop at.offset (take at.end s)

-- the option o at offset k
abbrev pub option_span : ℕ → OptionFields → OptionSpan
option_span k o = record {
  offset = k;
  data_offset = k + (length (option_bytes o) - length o.value);
  data_len = length o.value;
  option_type = o.option_type;
  if_unknown = o.option_type / 64;
  may_change = flag (may_change o.option_type);
}

-- Bytes s have an option at the first cursor's position, this is its span, and the second cursor is after it.
pub record IsOptionSpan (at after : OptionCursor) (s : List ℕ) (span : OptionSpan) : Type 0 where
  pub option : OptionFields
  pub starts : StartsWithOption (header_rest at s) option
  pub fields : span ≡ option_span at.offset option
  pub offset : after.offset ≡ at.offset + length (option_bytes option)
  pub end : after.end ≡ at.end
