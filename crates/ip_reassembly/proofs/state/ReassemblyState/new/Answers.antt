use Rattle.ip_reassembly.proofs.Common.{refl, ap, not, ◌∙◌}
use Rattle.ip_reassembly.specs.Reassembly.{state_fields}
use Rattle.ip_reassembly.proofs.ReceivedLemmas.{has_nothing, no_marks, not_not, zeros_are}
use Rattle.ip_reassembly.proofs.state.ReassemblyState.new.Goals as goal

pub returns-clause-arrived : goal.returns-clause-arrived
returns-clause-arrived c = λ buffer. has_nothing (state_fields (record { reach = 0; count = 0; ended = 0; abandoned = 0; kept = c.flag_of.result; run = record { units = 0; count = 0 }; marks = _ }) buffer) c.args.abandons (λ i. no_marks 2048 i) refl refl refl refl refl (ap not c.flag_of.ensures.set ∙ not_not c.args.abandons)

pub returns-clause-zero : goal.returns-clause-zero
returns-clause-zero c = λ abandons.
    record {
      marks = zeros_are 2048;
      reach = refl;
      count = refl;
      ended = refl;
      abandoned = refl;
      kept = c.flag_of.ensures.zero (ap not abandons);
      units = refl;
      fragments = refl;
    }
