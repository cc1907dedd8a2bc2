use Rattle.ip_ext_chains.proofs.ClearingLemmas.{room}
use Rattle.ip_ext_chains.proofs.borrowed.clear_chain.Goals as goal

pub clear_header-at-requires : goal.clear_header-at-requires
clear_header-at-requires c = record { room = room _ _ _ _ _ (rw c.in-Some.ensures.steps at c.headers.invariant) }

pub headers-preserved : goal.headers-preserved
headers-preserved c = c.clear_header-at.ensures _ _ (rw c.in-Some.ensures.steps at c.headers.invariant)
