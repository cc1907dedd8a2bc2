use Rattle.ip_spec.proofs.Common.{take}
use Rattle.ip_ext_chains.proofs.NumberedLemmas.{AreMarked}
use Rattle.ip_ext_chains.proofs.numbered.run_len.Given as goal

-- those before fit
abbrev pub invariant-lens : goal.invariant-lens
invariant-lens g l = AreMarked g.H.HasNumber.number_of (take l.len l.headers) l.places
