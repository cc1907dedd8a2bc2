-- A capture file of either form.
use Rattle.std.specs.Prelude.{◌≡◌, ℕ, List, []}
use Rattle.ip_captures.specs.Numbers.{number_at}
use Rattle.ip_captures.specs.ClassicHeader.{IsFileHeader}
use Rattle.ip_captures.specs.ClassicNext.{IsNext, reader_after}
use Rattle.ip_captures.specs.PcapngNext.{IsNextBlock, section_next, offset_next}
use Rattle.ip_captures.specs.PcapngCapture.{section_of, room_of, limit_of, offset_of}
use Rattle.ip_captures.specs.declared.byte_order.ByteOrder.TheVariants.{LittleEndian}
use Rattle.ip_captures.specs.declared.capture.Capture.{Capture}
use Rattle.ip_captures.specs.declared.capture.Capture.TheVariants.{Classic, Pcapng}
use Rattle.ip_captures.specs.declared.next.Next.{Next}

-- The reader of a capture that begins with the bytes s, before its first record or block.
abbrev pub IsBegun : List ℕ → ℕ → ℕ → Capture → Type 0
IsBegun s limit room (Classic c) = IsFileHeader s c.header × (c.limit ≡ limit) × (c.offset ≡ 24)
IsBegun s limit room (Pcapng c) = (number_at LittleEndian s 0 ≡ 0x0a0d_0d0a) × ((section_of c).interfaces ≡ []) × (limit_of c ≡ limit) × (offset_of c ≡ 0) × (room_of c ≡ room)

-- What comes next, where the bytes s are left.
abbrev pub IsNextIn : Capture → List ℕ → Next → Type 0
IsNextIn (Classic c) s x = IsNext c s x
IsNextIn (Pcapng c) s x = IsNextBlock (limit_of c) (room_of c) (section_of c) (offset_of c) s x

-- The reader after that.
abbrev pub IsAfter : Capture → List ℕ → Next → Capture → Type 0
IsAfter (Classic c) s x (Classic d) = d ≡ reader_after c x
IsAfter (Classic c) s x (Pcapng d) = ⊥
IsAfter (Pcapng c) s x (Classic d) = ⊥
IsAfter (Pcapng c) s x (Pcapng d) = (section_of d ≡ section_next (section_of c) s x) × (offset_of d ≡ offset_next (offset_of c) x) × (limit_of d ≡ limit_of c) × (room_of d ≡ room_of c)

-- the offset of the next record or block
abbrev pub offset_in_capture : Capture → ℕ
offset_in_capture (Classic c) = c.offset
offset_in_capture (Pcapng c) = offset_of c
