use Rattle.ip_defragmenter.proofs.SlotLemmas.{given_up}
use Rattle.ip_defragmenter.proofs.slot_laws.packets_are_given_up_for_a_reason.Goals as goal

pub returns : goal.returns
returns c = given_up
