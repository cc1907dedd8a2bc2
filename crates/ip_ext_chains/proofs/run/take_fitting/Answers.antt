use Rattle.ip_spec.proofs.Common.{◌∙◌, take_rest, rules}
use Rattle.ip_ext_slices.proofs.LongestLemmas.{longest_chain-longest}
use Rattle.ip_ext_chains.proofs.RunLemmas.{none_left, some_left}
use Rattle.ip_ext_chains.proofs.FittingLemmas.{walk_stops, walk_ends_occupied, walk_ends_free}
use Rattle.ip_ext_chains.proofs.run.take_fitting.Goals as goal

pub returns-then-not-is_empty : goal.returns-then-not-is_empty
returns-then-not-is_empty c =
    let run = rw (c.into_iter-headers.ensures.headers ∙ c.from_slice_lax-fault.ensures.answer.value) at c.take_run-places.ensures in
    walk_stops _ _ _ _ run (some_left _ _ c.take_run-places.new.headers.whole (search rules)) _
    (rw c.next_number.ensures (longest_chain-longest _ _).has.chain) _ (search (rules, take_rest))

pub returns-then-is_occupied : goal.returns-then-is_occupied
returns-then-is_occupied c =
    let run = rw (c.into_iter-headers.ensures.headers ∙ c.from_slice_lax-fault.ensures.answer.value) at c.take_run-places.ensures in
    let a = c.from_slice_lax-fault.ensures.answer in
    walk_ends_occupied _ _ _ _ run (none_left _ _ c.take_run-places.new.headers.whole (search rules)) _ _ _ a.number a.rest a.fault (search rules)

pub returns : goal.returns
returns c =
    let run = rw (c.into_iter-headers.ensures.headers ∙ c.from_slice_lax-fault.ensures.answer.value) at c.take_run-places.ensures in
    let a = c.from_slice_lax-fault.ensures.answer in
    walk_ends_free _ _ _ _ run (none_left _ _ c.take_run-places.new.headers.whole (search rules)) _ _ _ a.number a.rest a.fault (search rules)
