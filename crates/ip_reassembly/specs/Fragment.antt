-- Fragments of a payload (RFC 791, section 3.2; RFC 8200, section 4.5).
use Rattle.std.specs.Prelude.{ℕ, ◌+◌, ◌-◌, ◌*◌, ◌%◌, ◌==◌, ◌&&◌, ◌||◌, not, nat_lt, nat_le, max, min, length, slice_index, Bool, List}
use Rattle.std.specs.Bool.{beq}
use Rattle.std.specs.Str.{bytes_eq}

-- its offset in the payload, in bytes; whether more fragments follow; its bytes
pub record Fragment : Type 0 where
  pub offset : ℕ
  pub more : Bool
  pub bytes : List ℕ

-- the fragment with the offset, in units of 8 bytes, and the flag of a fragment header
abbrev pub fragment_at : ℕ → Bool → List ℕ → Fragment
fragment_at offset more bytes = record { offset = 8 * offset; more = more; bytes = bytes }

-- the offset after its bytes
abbrev pub end_of : Fragment → ℕ
end_of f = f.offset + length f.bytes

-- The byte of the payload at this offset is in the fragment.
abbrev pub is_in : Fragment → ℕ → Bool
is_in f i = nat_le f.offset i && nat_lt i (end_of f)

-- The fragment has this byte at this offset of the payload.
abbrev pub has_byte : ℕ → ℕ → Fragment → Bool
has_byte i byte f = is_in f i && (slice_index f.bytes (i - f.offset) == byte)

-- The fragments are equal.
abbrev pub is_same : Fragment → Fragment → Bool
is_same f g = (f.offset == g.offset) && beq f.more g.more && bytes_eq f.bytes g.bytes

-- A byte of the payload is in both.
abbrev pub overlaps : Fragment → Fragment → Bool
overlaps f g = nat_lt (max f.offset g.offset) (min (end_of f) (end_of g))

-- One is a last fragment, and the other ends after it.
abbrev pub has_two_ends : Fragment → Fragment → Bool
has_two_ends f g = (not f.more && nat_lt (end_of f) (end_of g)) || (not g.more && nat_lt (end_of g) (end_of f))

-- More fragments follow, and the length is 0 or not a multiple of 8.
abbrev pub is_unaligned : Fragment → Bool
is_unaligned f = f.more && ((length f.bytes == 0) || not (length f.bytes % 8 == 0))
