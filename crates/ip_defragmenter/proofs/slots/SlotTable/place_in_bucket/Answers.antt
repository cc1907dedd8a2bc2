use Rattle.std.proofs.Common.{◌≡◌, Some, None, length, sym, ◌∙◌}
use Rattle.std.specs.Prelude.{Contains}
use Rattle.ip_lists.proofs.Tables.{from_table, free_lacks}
use Rattle.ip_defragmenter.specs.Slots.{own_slot, bucket_in, buckets_of}
use Rattle.ip_defragmenter.proofs.SlotLemmas.{in_chain, has_bucket_of, own_table, own_place_of, place_of_new, own_in_use, anew_of, placed_within}
use Rattle.ip_defragmenter.proofs.slots.SlotTable.place_in_bucket.Goals as goal

pub returns-in-Some-clause-place : goal.returns-in-Some-clause-place
returns-in-Some-clause-place c = λ seed free used holds exists is.
    let old = c.args.self.now in
    let first = c.in-Some.ensures.first free used (bucket_in seed (buckets_of old.table) old.slots.now) holds.table in
    let own : own_slot old.slots.now used c.args.context c.args.key.now ≡ Some c.in-Some.place =
    sym (in_chain seed (buckets_of old.table) c.args.context c.args.bucket c.args.key.now old.slots.now used is) ∙ sym first in
    c.place_own.ensures.place ∙ sym (own_place_of c.args.timeout old.slots.now free used c.args.context c.args.key.now c.args.time c.in-Some.place own)

pub returns-in-Some-clause-table : goal.returns-in-Some-clause-table
returns-in-Some-clause-table c = λ seed free used holds exists is.
    let old = c.args.self.now in
    let b = bucket_in seed (buckets_of old.table) old.slots.now in
    let first = c.in-Some.ensures.first free used b holds.table in
    let own : own_slot old.slots.now used c.args.context c.args.key.now ≡ Some c.in-Some.place =
    sym (in_chain seed (buckets_of old.table) c.args.context c.args.bucket c.args.key.now old.slots.now used is) ∙ sym first in
    let there : Contains used c.in-Some.place = own_in_use old.slots.now used c.args.context c.args.key.now c.in-Some.place own in
    let bucket = has_bucket_of seed (buckets_of old.table) c.args.context c.args.key.now old.slots.now c.in-Some.place c.in-Some.ensures.has ∙ sym is in
    own_table c.place_own.result c.in-Some.place c.args.bucket _ free used b c.place_own.ensures.index
    (λ there_free. free_lacks _ _ _ _ _ _ (from_table old.table free used b holds.table).split c.in-Some.place there_free there)
    (c.place_own.ensures.table free used b holds.table there exists bucket)

pub returns-in-Some-clause-within : goal.returns-in-Some-clause-within
returns-in-Some-clause-within c = placed_within c.place_own.result c.in-Some.place (length c.args.self.now.slots.now) c.in-Some.ensures.within c.place_own.ensures.index

pub returns-in-None-clause-place : goal.returns-in-None-clause-place
returns-in-None-clause-place c = λ seed free used holds exists is.
    let old = c.args.self.now in
    let b = bucket_in seed (buckets_of old.table) old.slots.now in
    let first = c.in-None.ensures.first free used b holds.table in
    let own : own_slot old.slots.now used c.args.context c.args.key.now ≡ None =
    sym (in_chain seed (buckets_of old.table) c.args.context c.args.bucket c.args.key.now old.slots.now used is) ∙ sym first in
    let anew = anew_of c.args.timeout old seed free used c.args.time c.args.bucket _ c.place_anew.result b holds.table holds.free_slots holds.used_slots
    (λ p rest more table there. c.place_anew.ensures.free p rest more b table exists there) (λ p rest table there. c.place_anew.ensures.oldest p rest b table exists there) (c.place_anew.ensures.empty b) in
    anew.0 ∙ sym (place_of_new c.args.timeout old.slots.now free used c.args.context c.args.key.now c.args.time own)

pub returns-in-None-clause-table : goal.returns-in-None-clause-table
returns-in-None-clause-table c = λ seed free used holds exists is.
    let old = c.args.self.now in
    let b = bucket_in seed (buckets_of old.table) old.slots.now in
    (anew_of c.args.timeout old seed free used c.args.time c.args.bucket _ c.place_anew.result b holds.table holds.free_slots holds.used_slots
    (λ p rest more table there. c.place_anew.ensures.free p rest more b table exists there) (λ p rest table there. c.place_anew.ensures.oldest p rest b table exists there) (c.place_anew.ensures.empty b)).1
