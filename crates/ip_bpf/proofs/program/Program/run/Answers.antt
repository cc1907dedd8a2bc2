use Rattle.std.proofs.Common.{ap, ◌∙◌}
use Rattle.std.proofs.lemmas.Bool.{false≢true}
use Rattle.std.specs.Prelude.{is_some}
use Rattle.ip_bpf.proofs.ReturnLemmas as lemmas
use Rattle.ip_bpf.proofs.program.Program.run.Goals as goal

pub unreachable-requires : goal.unreachable-requires
unreachable-requires c = false≢true (ap is_some c.in-None.ensures ∙ lemmas.returns c.self.inside.instructions.now c.self.invariant c.args.packet.now)
