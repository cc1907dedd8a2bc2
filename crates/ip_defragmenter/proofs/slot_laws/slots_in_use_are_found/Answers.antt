use Rattle.ip_defragmenter.specs.Slots.{has_key, slot_at}
use Rattle.ip_defragmenter.proofs.SlotLemmas.{found_slot, found_in}
use Rattle.ip_defragmenter.proofs.slot_laws.slots_in_use_are_found.Goals as goal

pub returns : goal.returns
returns c = record {
  found = λ t seed free used context i k holds there has. found_slot t seed free used context i k holds there has;
  own = λ slots used context i k is. found_in (λ j. has_key context k (slot_at slots j)) used i is;
}
