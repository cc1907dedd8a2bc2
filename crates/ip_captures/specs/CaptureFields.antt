-- A reader of captures in plain numbers.
use Rattle.std.specs.Prelude.{◌≡◌, ◌==◌, ℕ, List, [], length, take, Option, Some, None, MatchOption, if◌then◌else◌}
use Rattle.std.specs.Option.{option_map_or}
use Rattle.ip_captures.specs.Numbers.{number_at}
use Rattle.ip_captures.specs.ClassicHeader.{IsFileHeader}
use Rattle.ip_captures.specs.ClassicNext.{IsNext}
use Rattle.ip_captures.specs.Block.{Section, kind_of, block_type, own_order}
use Rattle.ip_captures.specs.PcapngNext.{IsNextBlock, section_next}
use Rattle.ip_captures.specs.declared.byte_order.ByteOrder.{ByteOrder}
use Rattle.ip_captures.specs.declared.byte_order.ByteOrder.TheVariants.{LittleEndian, BigEndian}
use Rattle.ip_captures.specs.declared.block.BlockKind.{BlockKind}
use Rattle.ip_captures.specs.declared.block.BlockKind.TheVariants as kind
use Rattle.ip_captures.specs.declared.classic_header.Variant.{Variant}
use Rattle.ip_captures.specs.declared.classic_header.Variant.TheVariants.{Microseconds, Nanoseconds, Modified}
use Rattle.ip_captures.specs.declared.classic_header.ClassicHeader.{ClassicHeader}
use Rattle.ip_captures.specs.declared.classic_capture.ClassicCapture.{ClassicCapture}
use Rattle.ip_captures.specs.declared.capture_fields.CaptureFields.{CaptureFields}
use Rattle.ip_captures.specs.declared.next.Next.{Next}

-- the variant of a classic file by its code; pcapng has none
abbrev pub variant_in : ℕ → Option Variant
variant_in n = if n == 1 then Some Microseconds else if n == 2 then Some Nanoseconds else if n == 3 then Some Modified else None

-- the byte order by its code
abbrev pub order_in : ℕ → ByteOrder
order_in n = if n == 0 then LittleEndian else BigEndian

-- the code of a byte order
abbrev pub order_code : ByteOrder → ℕ
order_code LittleEndian = 0
order_code BigEndian = 1

-- the file header of a classic file
abbrev pub header_in : Variant → CaptureFields → ClassicHeader
header_in v f = record { byte_order = order_in f.byte_order; variant = v; snap_len = f.snap_len; link_type = f.link_type }

-- the reader of a classic file
abbrev pub classic_in : Variant → CaptureFields → ClassicCapture
classic_in v f = record { header = header_in v f; limit = f.limit; offset = f.offset }

-- the section of a pcapng file
abbrev pub section_in : CaptureFields → Section
section_in f = record { order = order_in f.byte_order; interfaces = take f.interface_count f.interfaces.now }

-- where the captured bytes of a block with a frame begin (sections 4.3, 4.4 and A.1)
abbrev pub captured_in : BlockKind → ℕ
captured_in kind.SectionHeader = 28
captured_in kind.InterfaceDescription = 28
captured_in kind.ObsoletePacket = 28
captured_in kind.SimplePacket = 12
captured_in kind.InterfaceStatistics = 28
captured_in kind.EnhancedPacket = 28
captured_in kind.Other = 28

-- where they begin in the block that begins the bytes
abbrev pub captured_at : ByteOrder → List ℕ → ℕ
captured_at order s = captured_in (kind_of (block_type (own_order order s) s))

-- The reader of a capture that begins with the bytes s, before its first record or block.
abbrev pub IsBegunIn : List ℕ → CaptureFields → Type 0
IsBegunIn s f = MatchOption (variant_in f.form)
    ((number_at LittleEndian s 0 ≡ 0x0a0d_0d0a) × ((section_in f).interfaces ≡ []) × (f.offset ≡ 0))
    (λ v. IsFileHeader s (header_in v f) × (f.offset ≡ 24))

-- What comes next, where the bytes s are left.
abbrev pub IsNextOf : CaptureFields → List ℕ → Next → Type 0
IsNextOf f s x = MatchOption (variant_in f.form)
    (IsNextBlock f.limit (length f.interfaces.now) (section_in f) f.offset s x)
    (λ v. IsNext (classic_in v f) s x)

-- the section after that: a classic file has none
abbrev pub section_then : CaptureFields → List ℕ → Next → Section
section_then f s x = option_map_or (λ v. section_in f) (variant_in f.form) (section_next (section_in f) s x)

-- All but the section and the offset is as before.
pub record IsKept (f g : CaptureFields) : Type 0 where
  pub form : g.form ≡ f.form
  pub limit : g.limit ≡ f.limit
  pub room : length g.interfaces.now ≡ length f.interfaces.now
  pub snap_len : g.snap_len ≡ f.snap_len
  pub link_type : g.link_type ≡ f.link_type
