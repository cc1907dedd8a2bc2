-- The fields of a header, in network byte order. Byte 0 of each header is the next header.
use Rattle.std.specs.Prelude.{ℕ, ◌+◌, ◌*◌, ◌/◌, ◌==◌, not, Bool, List, length, drop, slice_index, slice_range, bit_and}
use Rattle.std.specs.Int.{from_be_bytes, w32}
use Rattle.ip_base.specs.Fragment.{is_fragment}

abbrev pub next_header : List ℕ → ℕ
next_header b = slice_index b 0

-- of hop-by-hop options, routing and destination options (RFC 8200, sections 4.3, 4.4, 4.6): the next header, and the
-- bytes after the length
pub record RawFields : Type 0 where
  pub next_header : ℕ
  pub payload : List ℕ

abbrev pub raw_fields : List ℕ → RawFields
raw_fields b = record { next_header = next_header b; payload = drop 2 b }

-- The bits of bytes 2 and 3 of a fragment header (RFC 8200, section 4.5): the offset is byte 2 followed by the 5 high
-- bits of byte 3.
abbrev pub offset_bits : ℕ → ℕ → ℕ
offset_bits high low = 32 * high + bit_and low 0xf8 / 8

-- The flag is the low bit of byte 3.
abbrev pub flag_bit : ℕ → Bool
flag_bit low = not (bit_and low 0x01 == 0)

-- Byte 3 with its reserved bits set to zero.
abbrev pub unreserved_bits : ℕ → ℕ
unreserved_bits low = bit_and low 0xf9

-- of a fragment header (RFC 8200, section 4.5): the fragment offset, in units of 8 bytes, whether more fragments
-- follow, and the packet's identification
pub record FragmentFields : Type 0 where
  pub next_header : ℕ
  pub fragment_offset : ℕ
  pub more_fragments : Bool
  pub identification : ℕ

abbrev pub fragment_fields : List ℕ → FragmentFields
fragment_fields b = record {
  next_header = next_header b;
  fragment_offset = offset_bits (slice_index b 2) (slice_index b 3);
  more_fragments = flag_bit (slice_index b 3);
  identification = from_be_bytes w32 (slice_range b 4 8);
}

-- the packet is a fragment: more fragments follow, or the offset is not 0
abbrev pub is_fragmenting : List ℕ → Bool
is_fragmenting b = is_fragment (fragment_fields b).more_fragments (fragment_fields b).fragment_offset

-- of an authentication header (RFC 4302, sections 2.4 to 2.6): the security parameters index (`spi`), the sequence
-- number and the integrity check value (`raw_icv`)
pub record AuthFields : Type 0 where
  pub next_header : ℕ
  pub spi : ℕ
  pub sequence_number : ℕ
  pub raw_icv : List ℕ

abbrev pub auth_fields : List ℕ → AuthFields
auth_fields b = record {
  next_header = next_header b;
  spi = from_be_bytes w32 (slice_range b 4 8);
  sequence_number = from_be_bytes w32 (slice_range b 8 12);
  raw_icv = drop 12 b;
}

-- the length in bytes of a header with these fields
abbrev pub raw_len : RawFields → ℕ
raw_len v = 2 + length v.payload

abbrev pub auth_len : AuthFields → ℕ
auth_len v = 12 + length v.raw_icv
