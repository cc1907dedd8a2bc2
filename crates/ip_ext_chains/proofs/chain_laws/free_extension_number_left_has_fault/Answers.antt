use Rattle.ip_ext_chains.proofs.FittingLemmas.{fitting_fault_at_end}
use Rattle.ip_ext_chains.proofs.chain_laws.free_extension_number_left_has_fault.Goals as goal

pub returns : goal.returns
returns c = fitting_fault_at_end
