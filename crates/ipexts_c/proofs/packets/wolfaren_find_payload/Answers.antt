use Rattle.ip_spec.proofs.Common.{ap, sym, ◌∙◌}
use Rattle.std.specs.Result.{result_err}
use Rattle.ip_spans.specs.PacketParts.{ip_fault_fields}
use Rattle.ipexts_c.proofs.packets.wolfaren_find_payload.Goals as goal

pub returns-clause-no_fault : goal.returns-clause-no_fault
returns-clause-no_fault c = λ e. ap ip_fault_fields (sym c.slice.ensures) ∙ sym c.find_payload.ensures.fault ∙ ap result_err (c.put_result.ensures.found e).0
