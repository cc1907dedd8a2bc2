-- The fragments of one packet, as they are read and added to one memory.
use Rattle.std.specs.Prelude.{◌≡◌, ℕ, true, List, [], ◌∷◌, map, Some, Ok}
use Rattle.std.specs.List.{list_any}
use Rattle.ip_dissect.specs.Dissection.{dissected}
use Rattle.ip_reassembly.specs.Fragment.{Fragment, is_same}
use Rattle.ip_defragmenter.specs.FragmentOf.{FragmentParts, packet_fragment}

-- the bytes of a packet that arrived, the piece of a payload that it has, and the fragment that is read from it
pub record Arrived : Type 0 where
  pub bytes : List ℕ
  pub piece : Fragment
  pub parts : FragmentParts

-- Each packet has one of the pieces, by Q, and is read as its fragment.
abbrev pub AreArrived : (Fragment → List ℕ → Type 0) → List Fragment → List Arrived → Type 0
AreArrived Q pieces [] = Unit {0}
AreArrived Q pieces (x ∷ xs) =
    (list_any (is_same x.piece) pieces ≡ true) × Q x.piece x.bytes × (packet_fragment (dissected x.bytes) ≡ Ok (Some x.parts)) × AreArrived Q pieces xs

-- the pieces that arrived
abbrev pub arrived_pieces : List Arrived → List Fragment
arrived_pieces xs = map (λ (x : Arrived). x.piece) xs

-- the fragments that were read
abbrev pub arrived_parts : List Arrived → List FragmentParts
arrived_parts xs = map (λ (x : Arrived). x.parts) xs
