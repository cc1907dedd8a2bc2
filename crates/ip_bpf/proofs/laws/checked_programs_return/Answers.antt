use Rattle.ip_bpf.proofs.ReturnLemmas as lemmas
use Rattle.ip_bpf.proofs.laws.checked_programs_return.Goals as goal

pub returns : goal.returns
returns c = λ program packet valid. lemmas.returns program valid packet
