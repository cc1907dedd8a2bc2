use Rattle.ip_reassembly.proofs.Common.{ℕ, ◌∙◌, ap, min, arith, ◌/◌}
use Rattle.ip_reassembly.specs.Reassembly.{state_fields}
use Rattle.ip_reassembly.proofs.ReceivedLemmas.{run_alone, removed}
use Rattle.ip_reassembly.proofs.state.ReassemblyState.unmark.Goals as goal

pub returns-then-div_ceil-end-clause-marks : goal.returns-then-div_ceil-end-clause-marks
returns-then-div_ceil-end-clause-marks c = λ buffer s h i. run_alone (state_fields c.args.self.now buffer) s i h (omega (arith, c.if-div_ceil-end.true, c.div_ceil.ensures, c.end.ensures))

pub returns-clause-marks : goal.returns-clause-marks
returns-clause-marks c = λ buffer s h i.
    removed (state_fields c.args.self.now buffer) s c.min.result c.min-end.result i _ h (c.min-end.ensures ∙ ap (λ (n : ℕ). min n 2048) c.div_ceil-2.ensures) (c.min.ensures ∙ ap (λ (n : ℕ). min (n / 4) c.min-end.result) c.end-2.ensures) (c.unmark.ensures i)
