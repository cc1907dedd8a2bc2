-- The memories of packets.
use Rattle.std.specs.Prelude.{◌≡◌, Bool, Option, Some, Result, if◌then◌else◌}
use Rattle.ip_reassembly.specs.declared.progress.Progress.{Progress}
use Rattle.ip_defragmenter.specs.FragmentOf.{FragmentParts}
use Rattle.ip_defragmenter.specs.Memory.{Stored, HoldsStored, stored_none, stored_outcome, stored_after}
use Rattle.ip_defragmenter.specs.declared.err.StoreError.{StoreError}
use Rattle.ip_defragmenter.specs.declared.memory.PacketMemory.{PacketMemory}

-- what is stored of a packet when a fragment comes: nothing if the packet is new there
abbrev pub kept_in : Bool → Stored → Stored
kept_in is_known s = if is_known then s else stored_none s.payload.limit

-- The memory m has become the memory n when this fragment was added, with this result.
pub record IsStored (m n : PacketMemory) (is_known : Bool) (f : FragmentParts) (r : Result Progress StoreError) : Type 0 where
  pub stored : (s : Stored) → HoldsStored m s → HoldsStored n (stored_after (kept_in is_known s) f)
  pub outcome : (s : Stored) → HoldsStored m s → r ≡ stored_outcome (kept_in is_known s) f

-- and it is there
abbrev pub IsStoredIn : PacketMemory → Option PacketMemory → Bool → FragmentParts → Result Progress StoreError → Type 0
IsStoredIn m o is_known f r = (n : PacketMemory) × ((o ≡ Some n) × IsStored m n is_known f r)
