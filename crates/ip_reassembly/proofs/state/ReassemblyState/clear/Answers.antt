use Rattle.ip_reassembly.proofs.Common.{refl, ap}
use Rattle.ip_reassembly.specs.Reassembly.{state_fields, is_set}
use Rattle.ip_reassembly.proofs.Common.{not}
use Rattle.ip_reassembly.proofs.ReceivedLemmas.{received_cleared}
use Rattle.ip_reassembly.proofs.state.ReassemblyState.clear.Goals as goal

pub returns : goal.returns
returns c = λ buffer s h. received_cleared (state_fields c.args.self.now buffer) _ s h (c.unmark.ensures.marks buffer s h) refl refl refl refl refl refl (ap (λ k. not (is_set k)) c.unmark.ensures.kept)
