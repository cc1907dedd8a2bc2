-- The slots of packets that aren't whole yet, and which one a packet has.
use Rattle.std.specs.Int.{abs_diff}
use Rattle.std.specs.Prelude.{◌≡◌, ℕ, ◌<◌, ◌-◌, ◌%◌, ◌==◌, ◌&&◌, ◌++◌, ◌∷◌, [], ◌↔◌, Bool, true, false, nat_lt, List, length, Contains, Option, Some, None, if◌then◌else◌, slice_index_or, slice_set}
use Rattle.std.specs.List.{find}
use Rattle.std.specs.Option.{option_map, option_map_or, option_and_then}
use Rattle.ip_lists.specs.Moves.{without}
use Rattle.ip_lists.specs.Table.{IsTable, HasRoom, HasBucket, AreSame}
use Rattle.ip_lists.specs.declared.table.Table.{Table}
use Rattle.ip_defragmenter.specs.Key.{same_key, hash_of}
use Rattle.ip_defragmenter.specs.declared.key.FragmentKey.{FragmentKey}
use Rattle.ip_defragmenter.specs.declared.pending.Pending.{Pending}
use Rattle.ip_defragmenter.specs.declared.pending.Loss.{Loss}
use Rattle.ip_defragmenter.specs.declared.pending.LossReason.{LossReason}
use Rattle.ip_defragmenter.specs.declared.pending.LossReason.TheVariants.{TimedOut, Displaced}
use Rattle.ip_defragmenter.specs.declared.settings.Settings.{Settings}
use Rattle.ip_defragmenter.specs.declared.slots.Placement.{Placement}
use Rattle.ip_defragmenter.specs.declared.slots.SlotTable.{SlotTable}
use Rattle.ip_defragmenter.specs.declared.slot.Slot.{Slot}
use Rattle.ip_defragmenter.specs.Slot.{pending_in, is_free, free_slot, slot_with}

-- The slot is that of the packet with this key in this context.
abbrev pub has_key : ℕ → FragmentKey → Slot → Bool
has_key context k slot = option_map_or (λ (p : Pending). (p.context == context) && same_key p.key k) (pending_in slot) false

-- A packet that arrived at the first time is given up at the second one (RFC 8200, section 4.5).
abbrev pub is_expired : ℕ → ℕ → ℕ → Bool
is_expired timeout since time = nat_lt timeout (abs_diff since time)

-- the loss of a packet
abbrev pub lost_by : LossReason → Pending → Loss
lost_by reason p = record { context = p.context; key = p.key; reason = reason }

-- the slot with this index
abbrev pub slot_at : List Slot → ℕ → Slot
slot_at slots i = slice_index_or slots i free_slot

-- the number of buckets of a table: what the chains have besides the places
abbrev pub buckets_of : Table → ℕ
buckets_of t = length t.chains.next.now - t.places

-- Both tables have as many places and buckets, and room for them.
pub record HaveSameSize (old new : Table) : Type 0 where
  pub places : new.places ≡ old.places
  pub buckets : (b : ℕ) → HasBucket new b ↔ HasBucket old b
  pub room : HasRoom old → HasRoom new

-- the bucket of a packet among so many
abbrev pub bucket_of_key : List ℕ → ℕ → ℕ → FragmentKey → ℕ
bucket_of_key seed n context k = hash_of seed context k % n

-- the bucket of the packet that has a slot
abbrev pub bucket_in : List ℕ → ℕ → List Slot → ℕ → ℕ
bucket_in seed n slots i = option_map_or (λ (p : Pending). bucket_of_key seed n p.context p.key) (pending_in (slot_at slots i)) 0

-- The table has a place for each slot, a bucket, and room for their links.
pub record HasRoomForSlots (t : SlotTable) : Type 0 where
  pub as_many : t.table.places ≡ length t.slots.now
  pub room : HasRoom t.table
  pub has_bucket : HasBucket t.table 0

-- Both have the same slots, of which the same ones are in use.
pub record IsUnchanged (old new : SlotTable) : Type 0 where
  pub slots : new.slots.now ≡ old.slots.now
  pub table : AreSame old.table new.table

-- The slots `free` are free. The slots `used` have packets, the one that has had its packet longest first, each in the bucket
-- of its packet.
pub record HoldsPackets (t : SlotTable) (seed free used : List ℕ) : Type 0 where
  pub as_many : t.table.places ≡ length t.slots.now
  pub room : HasRoom t.table
  pub has_bucket : HasBucket t.table 0
  pub table : IsTable t.table free used (bucket_in seed (buckets_of t.table) t.slots.now)
  pub free_slots : (i : ℕ) → Contains free i → is_free (slot_at t.slots.now i) ≡ true
  pub used_slots : (i : ℕ) → Contains used i → is_free (slot_at t.slots.now i) ≡ false
  -- A packet has one slot.
  pub one : (context : ℕ) (k : FragmentKey) (i j : ℕ) → Contains used i → Contains used j
      → has_key context k (slot_at t.slots.now i) ≡ true → has_key context k (slot_at t.slots.now j) ≡ true → i ≡ j

-- a place in the slot that has the packet: after the timeout it is given up, and begins anew
abbrev pub own_place : ℕ → ℕ → Pending → ℕ → Placement
own_place timeout i p time =
    if is_expired timeout p.since time then record { index = i; since = time; is_known = false; lost = Some (lost_by TimedOut p) }
    else record { index = i; since = p.since; is_known = true; lost = None }

-- in a free slot
abbrev pub new_place : ℕ → ℕ → Placement
new_place i time = record { index = i; since = time; is_known = false; lost = None }

-- in the slot of another packet, which is given up
abbrev pub displaced_place : ℕ → ℕ → Pending → ℕ → Placement
displaced_place timeout i p time = record {
  index = i;
  since = time;
  is_known = false;
  lost = Some (lost_by (if is_expired timeout p.since time then TimedOut else Displaced) p);
}

abbrev pub own_in : ℕ → List Slot → ℕ → ℕ → Option Placement
own_in timeout slots time i = option_map (λ (p : Pending). own_place timeout i p time) (pending_in (slot_at slots i))

abbrev pub displaced_in : ℕ → List Slot → ℕ → ℕ → Option Placement
displaced_in timeout slots time i = option_map (λ (p : Pending). displaced_place timeout i p time) (pending_in (slot_at slots i))

-- the place of a new packet: the first free slot or, only if there is none, the slot that has had its packet longest. None if
-- there are no slots.
abbrev pub place_anew : ℕ → List Slot → List ℕ → List ℕ → ℕ → Option Placement
place_anew timeout slots (i ∷ free) used time = Some (new_place i time)
place_anew timeout slots [] (i ∷ used) time = displaced_in timeout slots time i
place_anew timeout slots [] [] time = None

-- the slot in use that has the packet with this key in this context
abbrev pub own_slot : List Slot → List ℕ → ℕ → FragmentKey → Option ℕ
own_slot slots used context k = find (λ (i : ℕ). has_key context k (slot_at slots i)) used

-- the place of a packet: its own slot, else that of a new packet
abbrev pub place_of : ℕ → List Slot → List ℕ → List ℕ → ℕ → FragmentKey → ℕ → Option Placement
place_of timeout slots free used context k time =
    option_map_or (own_in timeout slots time) (own_slot slots used context k) (place_anew timeout slots free used time)

-- the slots when the packet with this key has this place, if any
abbrev pub slots_after : List Slot → ℕ → FragmentKey → Option Placement → List Slot
slots_after slots context k None = slots
slots_after slots context k (Some p) = slice_set slots p.index (slot_with p.since context k)

-- the free slots then
abbrev pub free_after : List ℕ → Option Placement → List ℕ
free_after free None = free
free_after free (Some p) = without p.index free

-- the slots in use then: one whose packet is new there is the last one
abbrev pub used_after : List ℕ → Option Placement → List ℕ
used_after used None = used
used_after used (Some p) = if p.is_known then used else without p.index used ++ p.index ∷ []

-- The packet with this key has this place, if any. A fragment joins others only in a slot of its own key and context.
pub record IsPlaced (t : SlotTable) (settings : Settings) (context : ℕ) (k : FragmentKey) (time : ℕ) (o : Option Placement) : Type 0 where
  pub place : (free used : List ℕ) → HoldsPackets t settings.seed free used → o ≡ place_of settings.timeout t.slots.now free used context k time
  pub known : (p : Placement) → o ≡ Some p → p.is_known ≡ true → has_key context k (slot_at t.slots.now p.index) ≡ true
  pub within : (p : Placement) → o ≡ Some p → p.index < length t.slots.now

-- the loss of a slot's packet, if it isn't whole after the timeout
abbrev pub loss_by : ℕ → ℕ → Pending → Option Loss
loss_by timeout time p = if is_expired timeout p.since time then Some (lost_by TimedOut p) else None

abbrev pub loss_of : ℕ → Slot → ℕ → Option Loss
loss_of timeout slot time = option_and_then (loss_by timeout time) (pending_in slot)
