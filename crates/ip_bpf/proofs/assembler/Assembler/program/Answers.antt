use Rattle.std.proofs.Common.{◌≡◌, ℕ, ◌<◌, false, List, length, sym, subst}
use Rattle.ip_bpf.proofs.AssemblyLemmas.{whole_program}
use Rattle.ip_bpf.specs.Assembly.{needs_at}
use Rattle.ip_bpf.specs.declared.instruction.Instruction.{Instruction}
use Rattle.ip_bpf.proofs.assembler.Assembler.program.Goals as goal

pub returns-clause-whole : goal.returns-clause-whole
returns-clause-whole c = λ some none.
    let same = sym c.instructions.ensures.value in
    c.new.ensures.ok.1 (whole_program c.instructions.result.now
    (subst (λ (p : List Instruction). 0 < length p) same some)
    c.instructions.ensures.few
    c.instructions.ensures.right
    (subst (λ (p : List Instruction). (k : ℕ) → needs_at k p (length p) ≡ false) same none))
