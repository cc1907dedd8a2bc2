use Rattle.ip_bpf.proofs.AssemblyLemmas.{extends-put}
use Rattle.ip_bpf.proofs.assembler.Assembler.reach.Goals as goal

pub returns-clause-front : goal.returns-clause-front
returns-clause-front c = extends-put _ _ _ c.jump.ensures
