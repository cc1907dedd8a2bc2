use Rattle.std.proofs.Common.{◌≡◌, ◌+◌, ◌<◌, [], ◌∷◌, length, Some, true, false, refl, ap, arith, inl, inr}
use Rattle.std.proofs.lemmas.Option.{none-some, same_Some}
use Rattle.ip_lists.specs.declared.table.Taken.{Taken}
use Rattle.ip_lists.proofs.Paths.{start_within}
use Rattle.ip_lists.proofs.Filters.{has_head}
use Rattle.ip_lists.proofs.Tables.{from_table, to_table, taken_free, taken_used, moved_as}
use Rattle.ip_lists.proofs.table.Table.take.Goals as goal

pub returns-in_err-used-clause-free : goal.returns-in_err-used-clause-free
returns-in_err-used-clause-free c = λ p free used bucket_of table _.
    absurd (c.in_err-used.ensures.none refl _ table.ages_linked (start_within _ _ _ used table.used_list))

pub returns-in_err-used-clause-oldest : goal.returns-in_err-used-clause-oldest
returns-in_err-used-clause-oldest c = λ p used bucket_of table _.
    absurd (c.in_err-used.ensures.none refl _ table.ages_linked (start_within _ _ _ (p ∷ used) table.used_list))

pub returns-in_err-taken-clause-free : goal.returns-in_err-taken-clause-free
returns-in_err-taken-clause-free c = λ p free used bucket_of table _.
    absurd (none-some _ (c.in_err-taken.ensures.free p free table.free_list ((table.each p).0 (inl (has_head p free)))))

pub returns-in_err-taken-clause-oldest : goal.returns-in_err-taken-clause-oldest
returns-in_err-taken-clause-oldest c = λ p used bucket_of table _.
    let list = table.used_list in
    absurd (none-some _ (c.in_err-taken.ensures.used table.free_list p used (rw (c.in_ok-used.ensures.found.0) list) ((table.each p).0 (inr (has_head p used)))))

pub returns-clause-free : goal.returns-clause-free
returns-clause-free c = λ p free used bucket_of table exists.
    let old = c.args.self.now in
    let within : p < old.places = (table.each p).0 (inl (has_head p free)) in
    let is : Some c.in_ok-taken.taken ≡ Some (record { place = p; was_used = false }) = c.in_ok-taken.ensures.free p free table.free_list within in
    let place : c.in_ok-taken.taken.place ≡ p = ap (λ (t : Taken). t.place) (same_Some _ _ is) in
    let head : c.in_ok-used.used ≡ old.places + 1 = c.in_ok-used.ensures.found.0 in
    let head_within : c.in_ok-used.used < length old.ages.next.now = c.in_ok-used.ensures.found.1 in
    let chain : c.in_ok-chain.chain ≡ old.places + c.args.bucket = c.in_ok-chain.ensures.found.0 in
    let chain_within : c.in_ok-chain.chain < length old.chains.next.now = c.in_ok-chain.ensures.found.1 in
    let aged = c.move_to.ensures.moved table.ages_linked head_within (omega arith) (λ e. absurd (omega arith)) in
    let chained = c.move_to-2.ensures.moved table.chains_linked chain_within (omega arith) (λ e. absurd (omega arith)) in (
      is,
      to_table _ _ _ _ (c.move_to.ensures.linked table.ages_linked) (c.move_to-2.ensures.linked table.chains_linked)
          (taken_free old.places p c.args.bucket old.ages.next.now old.chains.next.now _ _ free used bucket_of (from_table old (p ∷ free) used bucket_of table) exists (c.move_to-2.ensures.len)
          (moved_as _ _ _ _ _ _ head place aged) (moved_as _ _ _ _ _ _ chain place chained)),
    )

pub returns-clause-oldest : goal.returns-clause-oldest
returns-clause-oldest c = λ p used bucket_of table exists.
    let old = c.args.self.now in
    let within : p < old.places = (table.each p).0 (inr (has_head p used)) in
    let head : c.in_ok-used.used ≡ old.places + 1 = c.in_ok-used.ensures.found.0 in
    let list = table.used_list in
    let is : Some c.in_ok-taken.taken ≡ Some (record { place = p; was_used = true }) = c.in_ok-taken.ensures.used table.free_list p used (rw head list) within in
    let place : c.in_ok-taken.taken.place ≡ p = ap (λ (t : Taken). t.place) (same_Some _ _ is) in
    let head_within : c.in_ok-used.used < length old.ages.next.now = c.in_ok-used.ensures.found.1 in
    let chain : c.in_ok-chain.chain ≡ old.places + c.args.bucket = c.in_ok-chain.ensures.found.0 in
    let chain_within : c.in_ok-chain.chain < length old.chains.next.now = c.in_ok-chain.ensures.found.1 in
    let aged = c.move_to.ensures.moved table.ages_linked head_within (omega arith) (λ e. absurd (omega arith)) in
    let chained = c.move_to-2.ensures.moved table.chains_linked chain_within (omega arith) (λ e. absurd (omega arith)) in (
      is,
      to_table _ _ _ _ (c.move_to.ensures.linked table.ages_linked) (c.move_to-2.ensures.linked table.chains_linked)
          (taken_used old.places p c.args.bucket old.ages.next.now old.chains.next.now _ _ used bucket_of (from_table old [] (p ∷ used) bucket_of table) exists (c.move_to-2.ensures.len)
          (moved_as _ _ _ _ _ _ head place aged) (moved_as _ _ _ _ _ _ chain place chained)),
    )
