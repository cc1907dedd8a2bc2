-- The state of a reader of a pcapng capture.
use Rattle.std.specs.Prelude.{ℕ, List, length, take}
use Rattle.ip_captures.specs.Block.{Section}
use Rattle.ip_captures.specs.declared.interface.Interface.{Interface}
use Rattle.ip_captures.specs.declared.block_reader.BlockReader.{BlockReader}
use Rattle.ip_captures.specs.declared.pcapng_capture.PcapngCapture.{PcapngCapture}

-- the section that a reader is in, with this memory for interfaces
abbrev pub section_at : BlockReader → List Interface → Section
section_at r interfaces = record { order = r.byte_order; interfaces = take r.count interfaces }

-- the section that it is in
abbrev pub section_of : PcapngCapture → Section
section_of c = section_at c.reader c.interfaces.now

-- how many interfaces it has memory for
abbrev pub room_of : PcapngCapture → ℕ
room_of c = length c.interfaces.now

-- the greatest total length of a block
abbrev pub limit_of : PcapngCapture → ℕ
limit_of c = c.reader.limit

-- the offset of the next block
abbrev pub offset_of : PcapngCapture → ℕ
offset_of c = c.reader.offset
