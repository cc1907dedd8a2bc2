use Rattle.std.proofs.Common.{◌≡◌, ◌≤◌, List, [], length, drop, sym, subst, arith}
use Rattle.std.proofs.lemmas.List.{drop_all}
use Rattle.ip_bpf.specs.Assembly.{AreRight}
use Rattle.ip_bpf.specs.declared.instruction.Instruction.{Instruction}
use Rattle.ip_bpf.proofs.assembler.Assembler.clear.Goals as goal

pub invariant_of-self : goal.invariant_of-self
invariant_of-self c =
    let all : length c.self.inside.instructions ≤ 4096 = omega (arith, c.self.ranges) in
    let nothing : drop 4096 c.self.inside.instructions ≡ [] = drop_all 4096 c.self.inside.instructions all in
    (omega arith, subst AreRight (sym nothing) tt)

pub returns : goal.returns
returns c =
    let all : length c.self.inside.instructions ≤ 4096 = omega (arith, c.self.ranges) in
    drop_all 4096 c.self.inside.instructions all
