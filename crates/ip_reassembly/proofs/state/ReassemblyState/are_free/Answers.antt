use Rattle.ip_reassembly.proofs.Common.{◌∙◌, arith, le-leb}
use Rattle.ip_reassembly.proofs.MarkLemmas.{unmarked_after}
use Rattle.ip_reassembly.proofs.state.ReassemblyState.are_free.Goals as goal

pub returns-then-self-first-clause-free : goal.returns-then-self-first-clause-free
returns-then-self-first-clause-free c = λ buffer s h.
    ((λ free i low high. h.marks i ∙ unmarked_after s.fragments i (omega (arith, h.reach, c.if-self-first.true, low))), λ free. le-leb _ _ c.if-self-first.true)
