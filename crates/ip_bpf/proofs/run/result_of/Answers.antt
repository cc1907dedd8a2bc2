use Rattle.std.proofs.Common.{ℕ, List, ◌∙◌, sym, ap, take, drop, arith}
use Rattle.std.proofs.Math.Seq.{take-length}
use Rattle.std.proofs.lemmas.List.{length-drop}
use Rattle.ip_bpf.proofs.RunLemmas.{goes_on, result_from-drop, result_from-beyond}
use Rattle.ip_bpf.specs.Machine.{result_from}
use Rattle.ip_bpf.specs.declared.instruction.Instruction.{Instruction}
use Rattle.ip_bpf.proofs.run.result_of.Goals as goal

pub returns-then-skipped-after : goal.returns-then-skipped-after
returns-then-skipped-after c =
    sym (result_from-beyond c.in-Some.after.now c.in-Skip.skipped c.args.packet.now c.step.new.self (omega arith))
    ∙ sym (goes_on _ _ _ _ c.args.packet.now c.steps.machine c.step.new.self c.in-Skip.skipped c.in-Some.ensures.cases.0 c.in_ok-operation.ensures c.in-Skip.ensures)
    ∙ c.steps.invariant

pub steps-preserved : goal.steps-preserved
steps-preserved c =
    let after = c.in-Some.after.now in
    let n = c.in-Skip.skipped in
    ap (λ (k : ℕ). result_from (take k (drop n after)) 0 c.args.packet.now c.step.new.self) (sym (length-drop n after))
    ∙ ap (λ (p : List Instruction). result_from p 0 c.args.packet.now c.step.new.self) (take-length (drop n after))
    ∙ result_from-drop after n c.args.packet.now c.step.new.self
    ∙ sym (goes_on _ _ _ _ c.args.packet.now c.steps.machine c.step.new.self n c.in-Some.ensures.cases.0 c.in_ok-operation.ensures c.in-Skip.ensures)
    ∙ c.steps.invariant
