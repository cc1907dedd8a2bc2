use Rattle.std.proofs.Common.{◌-◌, ◌∙◌, sym, ap, length, below_more}
use Rattle.ip_bpf.specs.Programs.{instruction_error}
use Rattle.ip_bpf.proofs.CheckLemmas.{operation_found}
use Rattle.ip_bpf.proofs.checks.check_instructions.Goals as goal

pub loop-index-preserved : goal.loop-index-preserved
loop-index-preserved c =
    below_more _ _ c.loop-index.invariant
    (ap (instruction_error (length c.args.program.now - c.loop-index.index - 1)) (operation_found c.args.program.now c.loop-index.index _ c.loop-index-test.true)
    ∙ sym c.in_default.ensures)
