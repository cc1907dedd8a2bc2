use Rattle.ip_defragmenter.proofs.KeyLemmas.{own_key, own_context, only_key}
use Rattle.ip_defragmenter.proofs.slot_laws.slots_are_found_by_their_keys.Goals as goal

pub returns : goal.returns
returns c = record { own = own_key; context = own_context; key = only_key }
