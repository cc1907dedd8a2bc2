-- What a packet that is added changes.
use Rattle.std.specs.Prelude.{◌≡◌, ℕ, ◌++◌, ◌∷◌, [], Bool, true, false, List, Option, Some, None, Result, Ok, Err, slice_get, slice_set, if◌then◌else◌}
use Rattle.ip_reassembly.specs.declared.progress.Progress.{Progress}
use Rattle.ip_reassembly.specs.declared.progress.Progress.TheVariants as progress
use Rattle.ip_defragmenter.specs.FragmentOf.{FragmentParts}
use Rattle.ip_lists.specs.Moves.{without}
use Rattle.ip_defragmenter.specs.Slots.{HoldsPackets, IsPlaced, IsUnchanged, slots_after, free_after, used_after}
use Rattle.ip_defragmenter.specs.Memories.{IsStoredIn}
use Rattle.ip_defragmenter.specs.Memory.{own_refusal}
use Rattle.ip_defragmenter.specs.declared.settings.Settings.{Settings}
use Rattle.ip_defragmenter.specs.declared.err.StoreError.{StoreError}
use Rattle.ip_defragmenter.specs.declared.memory.PacketMemory.{PacketMemory}
use Rattle.ip_defragmenter.specs.declared.slot.Slot.{Slot}
use Rattle.ip_defragmenter.specs.Slot.{free_slot}
use Rattle.ip_defragmenter.specs.declared.slots.Placement.{Placement}
use Rattle.ip_defragmenter.specs.declared.slots.SlotTable.{SlotTable}
use Rattle.ip_defragmenter.specs.declared.outcome.Added.{Added}
use Rattle.ip_defragmenter.specs.declared.outcome.Outcome.{Outcome}
use Rattle.ip_defragmenter.specs.declared.outcome.Outcome.TheVariants.{MoreWanted, Whole, Dropped}
use Rattle.ip_defragmenter.specs.declared.outcome.DropReason.TheVariants.{Refused, NoSlot}

-- what became of a fragment, by what the memory with this index returned
abbrev pub outcome_in : ℕ → Result Progress StoreError → Outcome
outcome_in i (Ok progress.MoreWanted) = MoreWanted
outcome_in i (Ok progress.Whole) = Whole i
outcome_in i (Err e) = Dropped (Refused e)

-- The packet is whole.
abbrev pub is_whole : Result Progress StoreError → Bool
is_whole (Ok progress.MoreWanted) = false
is_whole (Ok progress.Whole) = true
is_whole (Err e) = false

-- the slots, of which this one is free again or not
abbrev pub freed : Bool → ℕ → List Slot → List Slot
freed b i slots = if b then slice_set slots i free_slot else slots

-- no slot was used, and no packet was given up
abbrev pub added_nothing : Outcome → Added
added_nothing o = record { outcome = o; slot = None; lost = None }

-- the free slots when this one is free again or not
abbrev pub free_with : Bool → ℕ → List ℕ → List ℕ
free_with b i free = if b then free ++ i ∷ [] else free

-- the slots in use then
abbrev pub used_without : Bool → ℕ → List ℕ → List ℕ
used_without b i used = if b then without i used else used

-- A fragment of this context was added at this place: the memory there returned r, and no other memory changed. The slot is free again if
-- the packet is whole, and its packet's otherwise.
pub record IsAddedAt (t : SlotTable) (memories : List PacketMemory) (seed : List ℕ) (context : ℕ) (f : FragmentParts) (p : Placement) (t' : SlotTable) (memories' : List PacketMemory) (a : Added) (r : Result Progress StoreError) : Type 0 where
  pub lost : a.lost ≡ p.lost
  pub outcome : a.outcome ≡ outcome_in p.index r
  pub index : a.slot ≡ Some p.index
  pub slots : t'.slots.now ≡ freed (is_whole r) p.index (slots_after t.slots.now context f.key (Some p))
  pub packets : (free used : List ℕ) → HoldsPackets t seed free used
      → HoldsPackets t' seed (free_with (is_whole r) p.index (free_after free (Some p))) (used_without (is_whole r) p.index (used_after used (Some p)))
  pub others : (j : ℕ) → (j ≡ p.index → ⊥) → slice_get memories' j ≡ slice_get memories j
  pub own : (m : PacketMemory) → slice_get memories p.index ≡ Some m → IsStoredIn m (slice_get memories' p.index) p.is_known f r

-- A fragment was added at its packet's place, if there is one.
abbrev pub IsAddedBy : SlotTable → List PacketMemory → List ℕ → ℕ → FragmentParts → Option Placement → SlotTable → List PacketMemory → Added → Type 0
IsAddedBy t memories seed context f None t' memories' a = (a ≡ added_nothing (Dropped NoSlot)) × IsUnchanged t t' × (memories' ≡ memories)
IsAddedBy t memories seed context f (Some p) t' memories' a = (r : Result Progress StoreError) × IsAddedAt t memories seed context f p t' memories' a r

-- A fragment that is refused by itself, for this reason, takes nothing; any other one is added.
abbrev pub IsAddedUnless : Option StoreError → SlotTable → List PacketMemory → Settings → ℕ → ℕ → FragmentParts → SlotTable → List PacketMemory → Added → Type 0
IsAddedUnless (Some e) t memories settings context time f t' memories' a = (a ≡ added_nothing (Dropped (Refused e))) × IsUnchanged t t' × (memories' ≡ memories)
IsAddedUnless None t memories settings context time f t' memories' a =
    (o : Option Placement) × IsPlaced t settings context f.key time o × IsAddedBy t memories settings.seed context f o t' memories' a

abbrev pub IsAdded : SlotTable → List PacketMemory → Settings → ℕ → ℕ → FragmentParts → SlotTable → List PacketMemory → Added → Type 0
IsAdded t memories settings context time f t' memories' a = IsAddedUnless (own_refusal f) t memories settings context time f t' memories' a
