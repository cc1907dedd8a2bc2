use Rattle.ip_spec.proofs.Common.{sym}
use Rattle.ip_ext_slices.proofs.LongestLemmas.{longest_chain-longest}
use Rattle.ip_ext_chains.proofs.RunLemmas.{placing_more, run_ends, run_all}
use Rattle.ip_ext_chains.proofs.run.take_run.Goals as goal

pub returns-in_default : goal.returns-in_default
returns-in_default c = run_ends _ _ _ _ (longest_chain-longest _ _).has.chain c.headers.invariant (sym (rw c.next_number.ensures at c.in_default.ensures))

pub returns-in_default-next : goal.returns-in_default-next
returns-in_default-next c = run_all _ _ _ _ c.headers.invariant c.in_default-next.ensures.steps

pub headers-preserved : goal.headers-preserved
headers-preserved c =
    let e = c.in-Some-next.ensures.steps in
    placing_more _ _ _ _ _ _ _ (rw (← e) (longest_chain-longest _ _).has.chain) (rw e at c.headers.invariant) (sym (rw c.next_number.ensures at c.in-Some.ensures)) c.put.ensures
