use Rattle.ip_spec.proofs.Common.{sym}
use Rattle.ip_ext_slices.proofs.LongestLemmas.{longest_chain-longest}
use Rattle.ip_ext_chains.proofs.ClearingLemmas.{room}
use Rattle.ip_ext_chains.proofs.RunLemmas.{placing_more, run_ends, run_all}
use Rattle.ip_ext_chains.proofs.borrowed.clear_run.Goals as goal

pub returns-in_default-clause-run : goal.returns-in_default-clause-run
returns-in_default-clause-run c = run_ends _ _ _ _ (longest_chain-longest _ _).has.chain c.headers.invariant.placing (sym (rw c.next_number.ensures at c.in_default.ensures))

pub returns-in_default-next-clause-run : goal.returns-in_default-next-clause-run
returns-in_default-next-clause-run c = run_all _ _ _ _ c.headers.invariant.placing c.in_default-next.ensures.steps

pub clear_header-at-requires : goal.clear_header-at-requires
clear_header-at-requires c = record { room = room _ _ _ _ _ (rw c.in-Some-next.ensures.steps at c.headers.invariant.clearing) }

pub headers-preserved : goal.headers-preserved
headers-preserved c =
    let e = c.in-Some-next.ensures.steps in
    record {
      placing = placing_more _ _ _ _ _ _ _ (rw (← e) (longest_chain-longest _ _).has.chain) (rw e at c.headers.invariant.placing) (sym (rw c.next_number.ensures at c.in-Some.ensures)) c.put.ensures;
      clearing = c.clear_header-at.ensures _ _ (rw e at c.headers.invariant.clearing);
    }
