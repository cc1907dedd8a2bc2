-- A memory that has a whole packet.
use Rattle.std.specs.Prelude.{◌≡◌, ℕ, ◌+◌, ◌≤◌, List, length, slice_get, None, Some}
use Rattle.ip_reassembly.specs.Received.{payload_in}
use Rattle.ip_defragmenter.specs.Ecn.{is_congested, marked}
use Rattle.ip_defragmenter.specs.Memory.{FirstParts, Stored, HoldsStored}
use Rattle.ip_defragmenter.specs.Whole.{whole_fault, whole_packet}
use Rattle.ip_defragmenter.specs.declared.memory.PacketMemory.{PacketMemory}
use Rattle.ip_defragmenter.specs.declared.outcome.Outcome.TheVariants.{Whole}
use Rattle.ip_defragmenter_laws.specs.Run.{Call, TableState}

-- The memory has the packet s: its payload is whole, and with the headers of its first fragment it is s, which can be
-- written where there is room for it.
pub record HasPacket (m : PacketMemory) (s : List ℕ) : Type 0 where
  pub stored : Stored
  pub payload : List ℕ
  pub first : FirstParts
  pub holds : HoldsStored m stored
  pub payload_is : payload_in stored.payload ≡ Some payload
  pub first_is : stored.first ≡ Some first
  pub packet : whole_packet (marked (is_congested stored.points) first.headers) first.link first.number payload ≡ s
  pub len : length first.headers + length payload ≡ length s
  pub writable : (room : ℕ) → length s ≤ room → whole_fault first.headers first.link (length payload) room ≡ None

-- The call returned that a packet is whole, and the memory with the returned index has the packet s.
pub record IsMadeWhole (s : List ℕ) (x : Call) (t : TableState) : Type 0 where
  pub index : ℕ
  pub memory : PacketMemory
  pub outcome : x.added.outcome ≡ Whole index
  pub there : slice_get t.memories index ≡ Some memory
  pub packet : HasPacket memory s
