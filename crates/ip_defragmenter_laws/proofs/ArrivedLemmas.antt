-- The fragments of one packet in one memory.
use Rattle.std.proofs.Common.{◌≡◌, ℕ, ◌≤◌, List, [], ◌∷◌, true, length, refl, sym, ◌∙◌, subst, Some, Ok, Option, Result}
use Rattle.std.specs.List.{list_any}
use Rattle.std.proofs.lemmas.Bool.{and_from, false≢true}
use Rattle.ip_dissect.specs.Dissection.{dissected}
use Rattle.ip_reassembly.specs.Fragment.{Fragment, is_same}
use Rattle.ip_reassembly.specs.Split.{IsSplit, are_among}
use Rattle.ip_defragmenter.specs.FragmentOf.{FragmentParts, packet_fragment}
use Rattle.ip_defragmenter.specs.Memory.{WasStored}
use Rattle.ip_defragmenter.specs.declared.err.FragmentError.{FragmentError}
use Rattle.ip_defragmenter.specs.declared.key.FragmentKey.{FragmentKey}
use Rattle.ip_defragmenter.specs.declared.memory.PacketMemory.{PacketMemory}
use Rattle.ip_defragmenter_laws.specs.Arrived.{Arrived, AreArrived, arrived_parts, arrived_pieces}
use Rattle.ip_defragmenter_laws.specs.Written.{HasPacket}
use Rattle.ip_defragmenter_laws.proofs.PartLemmas.{AreParts, IsPart, part_packet}
use Rattle.ip_defragmenter_laws.proofs.RunLemmas.{IsReadAs}

-- A packet is read in one way.
same_read : (o : Result (Option FragmentParts) FragmentError) (f g : FragmentParts) → o ≡ Ok (Some f) → o ≡ Ok (Some g) → f ≡ g
same_read o f g one two = (let e : (let r : Result (Option FragmentParts) FragmentError = Ok (Some f) in r) ≡ Ok (Some g) = sym one ∙ two in cc)

module _ (k : FragmentKey) (point : ℕ) (payload s : List ℕ) (pieces : List Fragment) where
  are_parts : (xs : List Arrived) → AreArrived (IsReadAs k point payload s) pieces xs → AreParts point payload s (arrived_pieces xs) (arrived_parts xs)
  are_parts [] are = tt
  are_parts (x ∷ xs) are =
      let P : FragmentParts → Type 0 = λ f. IsPart point payload s x.piece f in
      (subst P (same_read (packet_fragment (dissected x.bytes)) are.1.parts x.parts are.1.read are.2) are.1.part, are_parts xs are.3)

  all_pieces : (xs : List Arrived) → AreArrived (IsReadAs k point payload s) pieces xs → are_among (arrived_pieces xs) pieces ≡ true
  all_pieces [] are = refl
  all_pieces (x ∷ xs) are = and_from (list_any (is_same x.piece) pieces) (are_among (arrived_pieces xs) pieces) are.0 (all_pieces xs are.3)

none_among : (payload : List ℕ) (pieces : List Fragment) → IsSplit payload pieces → are_among pieces [] ≡ true → ⊥
none_among payload [] split every = split
none_among payload (p ∷ ps) split every = false≢true every

pub arrived_packet : (k : FragmentKey) (point : ℕ) (payload s : List ℕ) (pieces : List Fragment) (xs : List Arrived) (m : PacketMemory) → IsSplit payload pieces → length payload ≤ 65535
    → AreArrived (IsReadAs k point payload s) pieces xs → are_among pieces (arrived_pieces xs) ≡ true → WasStored m 65535 (arrived_parts xs) → HasPacket m s
arrived_packet k point payload s pieces [] m split fits are every holds = absurd (none_among payload pieces split every)
arrived_packet k point payload s pieces (x ∷ xs) m split fits are every holds =
    part_packet point payload s pieces x.piece (arrived_pieces xs) x.parts (arrived_parts xs) m split fits
    (all_pieces k point payload s pieces (x ∷ xs) are) every (are_parts k point payload s pieces (x ∷ xs) are) holds
