use Rattle.ip_bpf.proofs.AssemblyLemmas.{extends-put}
use Rattle.ip_filter_bpf.proofs.blocks.put_shift.Goals as goal

pub returns-then-bits-gt0-clause-front : goal.returns-then-bits-gt0-clause-front
returns-then-bits-gt0-clause-front c = extends-put _ _ _ c.put.ensures
