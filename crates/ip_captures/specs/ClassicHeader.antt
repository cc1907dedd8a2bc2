-- The file header of a classic capture file (draft-ietf-opsawg-pcap, section 4).
use Rattle.std.specs.Prelude.{◌≡◌, ◌≢◌, ◌≤◌, ℕ, ◌%◌, List, length}
use Rattle.ip_captures.specs.Numbers.{number_at, short_number_at}
use Rattle.ip_captures.specs.declared.byte_order.ByteOrder.{ByteOrder}
use Rattle.ip_captures.specs.declared.classic_header.Variant.{Variant}
use Rattle.ip_captures.specs.declared.classic_header.Variant.TheVariants.{Microseconds, Nanoseconds, Modified}
use Rattle.ip_captures.specs.declared.classic_header.ClassicHeader.{ClassicHeader}
use Rattle.ip_captures.specs.declared.err.CaptureError.{CaptureError}
use Rattle.ip_captures.specs.declared.err.CaptureError.TheVariants.{UnknownMagic, UnknownVersion, LongRecord, Block}

-- the number that begins the file
abbrev pub magic_number : Variant → ℕ
magic_number Microseconds = 0xa1b2_c3d4
magic_number Nanoseconds = 0xa1b2_3c4d
magic_number Modified = 0xa1b2_cd34

-- in neither byte order do these bytes begin with a magic number
abbrev pub NoMagicNumber : List ℕ → Type 0
NoMagicNumber s = (order : ByteOrder) (variant : Variant) → number_at order s 0 ≢ magic_number variant

-- The bytes begin with the 24 bytes of this file header, of major version 2.
pub record IsFileHeader (s : List ℕ) (h : ClassicHeader) : Type 0 where
  pub enough : 24 ≤ length s
  pub magic : number_at h.byte_order s 0 ≡ magic_number h.variant
  pub version : short_number_at h.byte_order s 4 ≡ 2
  pub snap_len : h.snap_len ≡ number_at h.byte_order s 16
  -- the low 16 bits of the last number; the others say whether frames have a frame check sequence
  pub link_type : h.link_type ≡ number_at h.byte_order s 20 % 65536

-- Why 24 bytes or more don't begin with a file header: the first thing that is wrong.
abbrev pub IsHeaderError : List ℕ → CaptureError → Type 0
IsHeaderError s UnknownMagic = NoMagicNumber s
IsHeaderError s (UnknownVersion major) = (order : ByteOrder) × (variant : Variant) × (number_at order s 0 ≡ magic_number variant)
    × (major ≡ short_number_at order s 4) × (major ≢ 2)
IsHeaderError s (LongRecord offset captured_len limit) = ⊥
IsHeaderError s (Block offset error) = ⊥
