-- Memories that have only fragments of the packets that have their slots, over a whole run.
use Rattle.std.specs.Prelude.{◌≡◌, ℕ, List, Contains, Some, slice_get}
use Rattle.std.specs.List.{All}
use Rattle.ip_defragmenter.specs.FragmentOf.{FragmentParts}
use Rattle.ip_defragmenter.specs.Memory.{Stored, HoldsStored, WasStored}
use Rattle.ip_defragmenter.specs.Slot.{pending_in}
use Rattle.ip_defragmenter.specs.Slots.{slot_at}
use Rattle.ip_defragmenter.specs.declared.memory.PacketMemory.{PacketMemory}
use Rattle.ip_defragmenter.specs.declared.pending.Pending.{Pending}
use Rattle.ip_defragmenter.specs.declared.slots.SlotTable.{SlotTable}

-- a fragment, and the context in which it arrived
pub record Arrival : Type 0 where
  pub context : ℕ
  pub fragment : FragmentParts

-- The memory has nothing but fragments of this packet, each of which is among those that arrived.
pub record HasOwn (arrived : List Arrival) (m : PacketMemory) (p : Pending) : Type 0 where
  pub given : List FragmentParts
  pub stored : WasStored m 65535 given
  pub own : All (λ f. (f.key ≡ p.key) × Contains arrived (record { context = p.context; fragment = f })) given

-- After these fragments arrived, each memory has only fragments of its slot's packet.
pub record IsSound (t : SlotTable) (memories : List PacketMemory) (arrived : List Arrival) : Type 0 where
  pub stored : (i : ℕ) (m : PacketMemory) → slice_get memories i ≡ Some m → (s : Stored) × HoldsStored m s × (s.payload.limit ≡ 65535)
  pub own : (i : ℕ) (m : PacketMemory) (p : Pending) → slice_get memories i ≡ Some m → pending_in (slot_at t.slots.now i) ≡ Some p → HasOwn arrived m p
