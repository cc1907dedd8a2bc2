use Rattle.ip_reassembly.proofs.ReceivedLemmas.{zero_is_new}
use Rattle.ip_reassembly.proofs.zero_laws.zeros_are_a_new_state.Goals as goal

pub returns : goal.returns
returns c = zero_is_new
