-- Runs in which there is a slot for each packet, and no packet's time is over.
use Rattle.std.specs.Prelude.{◌≡◌, ◌⊎◌, ℕ, false, List, [], ◌∷◌, None, Some, Ok, slice_get}
use Rattle.ip_dissect.specs.Dissection.{dissected}
use Rattle.ip_defragmenter.specs.FragmentOf.{FragmentParts, packet_fragment}
use Rattle.ip_defragmenter.specs.Slots.{is_expired}
use Rattle.ip_defragmenter.specs.declared.key.FragmentKey.{FragmentKey}
use Rattle.ip_defragmenter_laws.specs.Run.{Step, Adds, GivesUp, Clears}

-- a packet that is sent in fragments, by its context and key
pub record PacketName : Type 0 where
  pub context : ℕ
  pub key : FragmentKey

-- The packet is one of these.
abbrev pub IsNamed : List PacketName → ℕ → FragmentKey → Type 0
IsNamed names context k = (i : ℕ) × (slice_get names i ≡ Some (record { context = context; key = k }))

-- Each fragment that arrived since the table was last cleared is of one of the packets.
abbrev pub AreNamed : List PacketName → List Step → Type 0
AreNamed names [] = Unit {0}
AreNamed names (Adds x ∷ xs) = ((f : FragmentParts) → packet_fragment (dissected x.bytes) ≡ Ok (Some f) → IsNamed names x.context f.key) × AreNamed names xs
AreNamed names (GivesUp x ∷ xs) = AreNamed names xs
AreNamed names (Clears ∷ xs) = Unit {0}

-- A packet arrived at this time since then.
abbrev pub IsTime : List Step → ℕ → Type 0
IsTime [] time = ⊥
IsTime (Adds x ∷ xs) time = (x.time ≡ time) ⊎ IsTime xs time
IsTime (GivesUp x ∷ xs) time = IsTime xs time
IsTime (Clears ∷ xs) time = ⊥

-- No packet that arrived in these calls is given up with this timeout at this time.
abbrev pub IsTimely : ℕ → ℕ → List Step → Type 0
IsTimely timeout time xs = (since : ℕ) → IsTime xs since → is_expired timeout since time ≡ false

-- Each call since then came within the timeout after all packets that had arrived; the timeout of `give_up` is its own.
abbrev pub AreTimely : ℕ → List Step → Type 0
AreTimely timeout [] = Unit {0}
AreTimely timeout (Adds x ∷ xs) = IsTimely timeout x.time xs × AreTimely timeout xs
AreTimely timeout (GivesUp x ∷ xs) = IsTimely x.timeout x.time xs × AreTimely timeout xs
AreTimely timeout (Clears ∷ xs) = Unit {0}

-- No call since then reported that a packet was given up.
abbrev pub NothingLost : List Step → Type 0
NothingLost [] = Unit {0}
NothingLost (Adds x ∷ xs) = (x.added.lost ≡ None) × NothingLost xs
NothingLost (GivesUp x ∷ xs) = (x.lost ≡ None) × NothingLost xs
NothingLost (Clears ∷ xs) = Unit {0}
