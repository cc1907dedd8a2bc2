-- Numbers in a capture, in its byte order (draft-ietf-opsawg-pcap, section 4; draft-ietf-opsawg-pcapng, section 3.3).
use Rattle.std.specs.Prelude.{ℕ, List, ◌+◌, slice_range}
use Rattle.std.specs.Int.{from_le_bytes, from_be_bytes, w16, w32, w64}
use Rattle.ip_captures.specs.declared.byte_order.ByteOrder.{ByteOrder}
use Rattle.ip_captures.specs.declared.byte_order.ByteOrder.TheVariants.{LittleEndian, BigEndian}

-- the number in the 2 bytes at an offset
abbrev pub short_number_at : ByteOrder → List ℕ → ℕ → ℕ
short_number_at LittleEndian b offset = from_le_bytes w16 (slice_range b offset (offset + 2))
short_number_at BigEndian b offset = from_be_bytes w16 (slice_range b offset (offset + 2))

-- the number in the 4 bytes at an offset
abbrev pub number_at : ByteOrder → List ℕ → ℕ → ℕ
number_at LittleEndian b offset = from_le_bytes w32 (slice_range b offset (offset + 4))
number_at BigEndian b offset = from_be_bytes w32 (slice_range b offset (offset + 4))

-- the number in the 8 bytes at an offset
abbrev pub long_number_at : ByteOrder → List ℕ → ℕ → ℕ
long_number_at LittleEndian b offset = from_le_bytes w64 (slice_range b offset (offset + 8))
long_number_at BigEndian b offset = from_be_bytes w64 (slice_range b offset (offset + 8))
