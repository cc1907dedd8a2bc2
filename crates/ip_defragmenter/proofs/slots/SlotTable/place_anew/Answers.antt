use Rattle.std.proofs.Common.{◌≡◌, ◌<◌, length, sym, ap, arith}
use Rattle.std.proofs.lemmas.Option.{none-some, same_Some}
use Rattle.ip_lists.specs.declared.table.Taken.{Taken}
use Rattle.ip_defragmenter.proofs.SlotLemmas.{new_is, displaced_is}
use Rattle.ip_defragmenter.proofs.slots.SlotTable.place_anew.Goals as goal

pub returns-in_err-index-clause-free : goal.returns-in_err-index-clause-free
returns-in_err-index-clause-free c = λ p free used bucket_of table exists _. absurd (none-some _ (c.in_err-index.ensures.free p free used bucket_of table exists).0)

pub returns-in_err-index-clause-oldest : goal.returns-in_err-index-clause-oldest
returns-in_err-index-clause-oldest c = λ p used bucket_of table exists _. absurd (none-some _ (c.in_err-index.ensures.oldest p used bucket_of table exists).0)

pub returns-clause-free : goal.returns-clause-free
returns-clause-free c = λ p free used bucket_of table exists is.
    let taken = c.in_ok-index.ensures.free p free used bucket_of table exists in
    let index : c.in_ok-index.field-0.place ≡ p = ap (λ (t : Taken). t.place) (same_Some _ _ taken.0) in
    let within : c.in_ok-index.field-0.place < length c.args.self.now.slots.now = omega (arith, c.in_ok-index.ensures.within, c.requires) in
    (new_is c.in_ok-index.field-0.place p c.args.time c.args.self.now.slots.now _ c.place_in.result index within is c.place_in.ensures.free, taken.1)

pub returns-clause-oldest : goal.returns-clause-oldest
returns-clause-oldest c = λ p used bucket_of table exists is.
    let taken = c.in_ok-index.ensures.oldest p used bucket_of table exists in
    let index : c.in_ok-index.field-0.place ≡ p = ap (λ (t : Taken). t.place) (same_Some _ _ taken.0) in
    let within : c.in_ok-index.field-0.place < length c.args.self.now.slots.now = omega (arith, c.in_ok-index.ensures.within, c.requires) in
    (displaced_is c.args.timeout c.in_ok-index.field-0.place p c.args.time c.args.self.now.slots.now _ c.place_in.result index within is c.place_in.ensures.displaced, taken.1)

pub returns-clause-empty : goal.returns-clause-empty
returns-clause-empty c = λ bucket_of table. absurd (none-some _ (sym (c.in_ok-index.ensures.empty bucket_of table)))
