-- Runs of `defragment`, `give_up` and `clear`: one call after another on a table of slots and their memories.
use Rattle.std.specs.Prelude.{◌≡◌, ℕ, ◌<◌, ◌≤◌, ◌++◌, true, List, [], ◌∷◌, Option, None, Some, is_some, Ok, Err, length, slice_get, slice_set, if◌then◌else◌}
use Rattle.std.specs.List.{list_any, range_with_len}
use Rattle.ip_lists.specs.Moves.{without}
use Rattle.ip_spec.specs.Encoding.{AreBytes}
use Rattle.ip_dissect.specs.Dissection.{dissected}
use Rattle.ip_reassembly.specs.Fragment.{Fragment, is_same}
use Rattle.ip_defragmenter.specs.Added.{IsAdded, added_nothing}
use Rattle.ip_defragmenter.specs.FragmentOf.{FragmentParts, packet_fragment}
use Rattle.ip_defragmenter.specs.Memory.{HoldsStored, stored_none}
use Rattle.ip_defragmenter.specs.Slot.{free_slot}
use Rattle.ip_defragmenter.specs.Slots.{HoldsPackets, IsUnchanged, loss_of, slot_at}
use Rattle.ip_defragmenter.specs.declared.err.FragmentError.{FragmentError}
use Rattle.ip_defragmenter.specs.declared.key.FragmentKey.{FragmentKey}
use Rattle.ip_defragmenter.specs.declared.memory.PacketMemory.{PacketMemory}
use Rattle.ip_defragmenter.specs.declared.outcome.Added.{Added}
use Rattle.ip_defragmenter.specs.declared.outcome.DropReason.TheVariants.{Unusable}
use Rattle.ip_defragmenter.specs.declared.outcome.Outcome.TheVariants.{NotFragment, Dropped}
use Rattle.ip_defragmenter.specs.declared.pending.Loss.{Loss}
use Rattle.ip_defragmenter.specs.declared.settings.Settings.{Settings}
use Rattle.ip_defragmenter.specs.declared.slots.SlotTable.{SlotTable}

-- a table of slots, and their memories
pub record TableState : Type 0 where
  pub slots : SlotTable
  pub memories : List PacketMemory

-- One call of `defragment`: the context in which a packet arrived, the time at which it did, its bytes, and what was
-- returned. `piece` is the piece of a payload that it has; none if it is no fragment of the payload's packet.
pub record Call : Type 0 where
  pub context : ℕ
  pub time : ℕ
  pub bytes : List ℕ
  pub piece : Option Fragment
  pub added : Added

-- One call of `give_up`: the index of a slot, the timeout, the time, and what was returned.
pub record GiveUp : Type 0 where
  pub index : ℕ
  pub timeout : ℕ
  pub time : ℕ
  pub lost : Option Loss

-- One call of a run: a packet is added, the packet of a slot is given up if its time is over, or the table is cleared.
pub data Step : Type 0 where
  Adds : Call → Step
  GivesUp : GiveUp → Step
  Clears : Step

-- The call changed the state s to the state t, by the contract of `defragment`.
pub record IsCall (settings : Settings) (s t : TableState) (x : Call) : Type 0 where
  pub bytes : AreBytes x.bytes
  pub as_many : length s.slots.slots.now ≡ length s.memories
  pub not_fragment : packet_fragment (dissected x.bytes) ≡ Ok None
      → (x.added ≡ added_nothing NotFragment) × IsUnchanged s.slots t.slots × (t.memories ≡ s.memories)
  pub unusable : (e : FragmentError) → packet_fragment (dissected x.bytes) ≡ Err e
      → (x.added ≡ added_nothing (Dropped (Unusable e))) × IsUnchanged s.slots t.slots × (t.memories ≡ s.memories)
  pub added : (f : FragmentParts) → packet_fragment (dissected x.bytes) ≡ Ok (Some f)
      → IsAdded s.slots s.memories settings x.context x.time f t.slots t.memories x.added

-- by the contract of `give_up`
pub record IsGivenUp (s t : TableState) (x : GiveUp) : Type 0 where
  pub lost : x.index < s.slots.table.places → x.lost ≡ loss_of x.timeout (slot_at s.slots.slots.now x.index) x.time
  pub beyond : s.slots.table.places ≤ x.index → x.lost ≡ None
  pub slots : t.slots.slots.now ≡ (if is_some x.lost then slice_set s.slots.slots.now x.index free_slot else s.slots.slots.now)
  pub packets : (seed free used : List ℕ) → HoldsPackets s.slots seed free used
      → HoldsPackets t.slots seed (if is_some x.lost then free ++ x.index ∷ [] else free) (if is_some x.lost then without x.index used else used)
  pub memories : t.memories ≡ s.memories

-- by the contract of `clear`, where it returned true
pub record IsCleared (s t : TableState) : Type 0 where
  pub packets : (seed : List ℕ) → HoldsPackets t.slots seed (range_with_len 0 (length s.slots.slots.now)) []
  pub len : length t.slots.slots.now ≡ length s.slots.slots.now
  pub memories : t.memories ≡ s.memories

abbrev pub IsStep : Settings → TableState → TableState → Step → Type 0
IsStep settings s t (Adds x) = IsCall settings s t x
IsStep settings s t (GivesUp x) = IsGivenUp s t x
IsStep settings s t Clears = IsCleared s t

-- These calls, the newest first, changed the state s to the state t.
abbrev pub IsCallRun : Settings → TableState → List Step → TableState → Type 0
IsCallRun settings s [] t = s ≡ t
IsCallRun settings s (x ∷ xs) t = (u : TableState) × IsCallRun settings s xs u × IsStep settings u t x

-- The table was cleared and has a slot, and the memories are new.
pub record IsFresh (settings : Settings) (s : TableState) : Type 0 where
  pub free : List ℕ
  pub slots : HoldsPackets s.slots settings.seed free []
  pub some : 0 < length s.slots.slots.now
  pub memories : (i : ℕ) (m : PacketMemory) → slice_get s.memories i ≡ Some m → HoldsStored m (stored_none 65535)

-- What a call reported isn't that the packet with this key in this context was given up: displaced, or not whole in time.
abbrev pub IsKept : ℕ → FragmentKey → Option Loss → Type 0
IsKept context k lost = (l : Loss) → lost ≡ Some l → l.context ≡ context → l.key ≡ k → ⊥

-- Whatever fragment the call's packet is, it is of another packet: its context or its key isn't this one.
abbrev pub IsOther : ℕ → FragmentKey → Call → Type 0
IsOther context k x = (f : FragmentParts) → packet_fragment (dissected x.bytes) ≡ Ok (Some f) → x.context ≡ context → f.key ≡ k → ⊥

-- The call's packet arrived in this context and has one of the pieces, by Q, or it is another one.
abbrev pub IsCallBy : (Fragment → List ℕ → Type 0) → List Fragment → ℕ → FragmentKey → Option Fragment → Call → Type 0
IsCallBy Q pieces context k None x = IsOther context k x
IsCallBy Q pieces context k (Some p) x = (x.context ≡ context) × (list_any (is_same p) pieces ≡ true) × Q p x.bytes

-- Each packet that was added since the table was last cleared is such a one.
abbrev pub AreCalls : (Fragment → List ℕ → Type 0) → List Fragment → ℕ → FragmentKey → List Step → Type 0
AreCalls Q pieces context k [] = Unit {0}
AreCalls Q pieces context k (Adds x ∷ xs) = IsCallBy Q pieces context k x.piece x × AreCalls Q pieces context k xs
AreCalls Q pieces context k (GivesUp x ∷ xs) = AreCalls Q pieces context k xs
AreCalls Q pieces context k (Clears ∷ xs) = Unit {0}

-- No call since then reported that the packet was given up.
abbrev pub AreKept : ℕ → FragmentKey → List Step → Type 0
AreKept context k [] = Unit {0}
AreKept context k (Adds x ∷ xs) = IsKept context k x.added.lost × AreKept context k xs
AreKept context k (GivesUp x ∷ xs) = IsKept context k x.lost × AreKept context k xs
AreKept context k (Clears ∷ xs) = Unit {0}

-- one more piece, if there is one
abbrev pub with_piece : Option Fragment → List Fragment → List Fragment
with_piece None ps = ps
with_piece (Some p) ps = p ∷ ps

-- the pieces that arrived since then
abbrev pub pieces_in : List Step → List Fragment
pieces_in [] = []
pieces_in (Adds x ∷ xs) = with_piece x.piece (pieces_in xs)
pieces_in (GivesUp x ∷ xs) = pieces_in xs
pieces_in (Clears ∷ xs) = []
