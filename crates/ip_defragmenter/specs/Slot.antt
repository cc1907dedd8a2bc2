-- Slots as numbers.
use Rattle.std.specs.Prelude.{ℕ, ◌%◌, ◌==◌, Bool, not, List, [], ◌∷◌, slice_index, Option, Some, None, is_some, if◌then◌else◌}
use Rattle.ip_defragmenter.specs.declared.key.FragmentKey.{FragmentKey}
use Rattle.ip_defragmenter.specs.declared.key.FragmentKey.TheVariants.{Ipv4, Ipv6}
use Rattle.ip_defragmenter.specs.declared.pending.Pending.{Pending}
use Rattle.ip_defragmenter.specs.declared.slot.Slot.{Slot}

-- the first 4 bytes
abbrev pub front_of : List ℕ → List ℕ
front_of b = slice_index b 0 ∷ slice_index b 1 ∷ slice_index b 2 ∷ slice_index b 3 ∷ []

-- 4 bytes with twelve zeros after them
abbrev pub padded : List ℕ → List ℕ
padded b = slice_index b 0 ∷ slice_index b 1 ∷ slice_index b 2 ∷ slice_index b 3 ∷ zeros where
  zeros : List ℕ
  zeros = 0 ∷ 0 ∷ 0 ∷ 0 ∷ 0 ∷ 0 ∷ 0 ∷ 0 ∷ 0 ∷ 0 ∷ 0 ∷ 0 ∷ []

-- the key by the numbers of a slot, if its version is one of IP
abbrev pub key_in : Slot → Option FragmentKey
key_in s =
    if s.version == 4 then Some (Ipv4 (front_of s.source) (front_of s.destination) (record { 0 = s.protocol }) (s.identification % 65536))
    else if s.version == 6 then Some (Ipv6 s.source s.destination s.identification)
    else None

-- the packet that has the slot, if it isn't free
abbrev pub pending_by : Slot → Option FragmentKey → Option Pending
pending_by s None = None
pending_by s (Some k) = Some (record { context = s.context; key = k; since = s.since })

abbrev pub pending_in : Slot → Option Pending
pending_in s = pending_by s (key_in s)

abbrev pub is_free : Slot → Bool
is_free s = not (is_some (pending_in s))

-- a free slot
abbrev pub free_slot : Slot
free_slot = record { since = 0; source = padded []; destination = padded []; identification = 0; context = 0; protocol = 0; version = 0 }

-- the slot of a packet with this key in this context, since this time
abbrev pub slot_with : ℕ → ℕ → FragmentKey → Slot
slot_with since context (Ipv4 a b c d) = record { since = since; source = padded a; destination = padded b; identification = d; context = context; protocol = c.0; version = 4 }
slot_with since context (Ipv6 a b d) = record { since = since; source = a; destination = b; identification = d; context = context; protocol = 0; version = 6 }
