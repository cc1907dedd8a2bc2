-- A packet that is neither whole nor given up, and its fragments.
use Rattle.std.specs.Prelude.{◌≡◌, ◌==◌, ◌&&◌, not, ℕ, Bool, true, false, List, [], ◌∷◌, Option, None, Some, is_some, Result, Ok, Err, slice_get, if◌then◌else◌}
use Rattle.ip_dissect.specs.Dissection.{dissected}
use Rattle.ip_defragmenter.specs.FragmentOf.{FragmentParts, packet_fragment}
use Rattle.ip_defragmenter.specs.Key.{same_key}
use Rattle.ip_defragmenter.specs.Memory.{WasStored, own_refusal}
use Rattle.ip_defragmenter.specs.Slots.{has_key, slot_at}
use Rattle.ip_defragmenter.specs.declared.err.FragmentError.{FragmentError}
use Rattle.ip_defragmenter.specs.declared.key.FragmentKey.{FragmentKey}
use Rattle.ip_defragmenter.specs.declared.memory.PacketMemory.{PacketMemory}
use Rattle.ip_defragmenter.specs.declared.outcome.Outcome.TheVariants.{Whole}
use Rattle.ip_defragmenter.specs.declared.slot.Slot.{Slot}
use Rattle.ip_defragmenter_laws.specs.Run.{Call, IsKept, Step, Adds, GivesUp, Clears}

-- The call didn't make the packet with this key in this context whole.
abbrev pub IsWanting : ℕ → FragmentKey → Call → Type 0
IsWanting context k x =
    (f : FragmentParts) (i : ℕ) → packet_fragment (dissected x.bytes) ≡ Ok (Some f) → x.context ≡ context → f.key ≡ k → x.added.outcome ≡ Whole i → ⊥

-- No call since the table was last cleared made the packet whole, or reported that it was given up.
abbrev pub IsPending : ℕ → FragmentKey → List Step → Type 0
IsPending context k [] = Unit {0}
IsPending context k (Adds x ∷ xs) = IsKept context k x.added.lost × IsWanting context k x × IsPending context k xs
IsPending context k (GivesUp x ∷ xs) = IsKept context k x.lost × IsPending context k xs
IsPending context k (Clears ∷ xs) = Unit {0}

-- The fragment is of the packet, and isn't refused by itself.
abbrev pub is_own : ℕ → FragmentKey → Call → FragmentParts → Bool
is_own context k x f = ((x.context == context) && same_key f.key k) && not (is_some (own_refusal f))

-- the fragments with that which was read, if it is one
abbrev pub with_own : ℕ → FragmentKey → Call → Result (Option FragmentParts) FragmentError → List FragmentParts → List FragmentParts
with_own context k x (Err e) fs = fs
with_own context k x (Ok None) fs = fs
with_own context k x (Ok (Some f)) fs = if is_own context k x f then f ∷ fs else fs

-- the packet's fragments that arrived since then, the newest first
abbrev pub fragments_in : ℕ → FragmentKey → List Step → List FragmentParts
fragments_in context k [] = []
fragments_in context k (Adds x ∷ xs) = with_own context k x (packet_fragment (dissected x.bytes)) (fragments_in context k xs)
fragments_in context k (GivesUp x ∷ xs) = fragments_in context k xs
fragments_in context k (Clears ∷ xs) = []

-- A slot has the packet, and its memory these fragments and no others.
pub record IsInSlot (context : ℕ) (k : FragmentKey) (given : List FragmentParts) (slots : List Slot) (memories : List PacketMemory) : Type 0 where
  pub index : ℕ
  pub has : has_key context k (slot_at slots index) ≡ true
  pub memory : PacketMemory
  pub at : slice_get memories index ≡ Some memory
  pub stored : WasStored memory 65535 given

-- by whether there are any; no slot has the packet if there are none
abbrev pub HasFragments : ℕ → FragmentKey → List FragmentParts → List Slot → List PacketMemory → Type 0
HasFragments context k [] slots memories = (i : ℕ) → has_key context k (slot_at slots i) ≡ false
HasFragments context k (f ∷ fs) slots memories = IsInSlot context k (f ∷ fs) slots memories
