use Rattle.std.proofs.Common.{◌≡◌, ◌+◌, ◌<◌, length, refl, arith}
use Rattle.std.proofs.lemmas.Bool.{false≢true}
use Rattle.ip_lists.specs.Lists.{IsAlone}
use Rattle.ip_lists.proofs.Paths.{start_within}
use Rattle.ip_lists.proofs.Tables.{from_table, to_table, renewed, moved_as, used_alone, unused_alone}
use Rattle.ip_lists.proofs.table.Table.renew.Goals as goal
use Rattle.ip_lists.proofs.table.Table.renew.Goals.{then-place-self-via-then-place-self, then-place-self-via-else-place-self+then-is_alone}

pub returns-then-place-self-clause-renewed : goal.returns-then-place-self-clause-renewed
returns-then-place-self-clause-renewed c = λ free used bucket_of table there _.
    let is = from_table c.args.self.now free used bucket_of table in
    let within : c.args.place < c.args.self.now.places = is.chained.below c.args.place there in
    absurd (elim c.then-place-self.branch [
      | then-place-self-via-then-place-self w ↦ omega arith
      | then-place-self-via-else-place-self+then-is_alone w ↦ used_alone _ _ _ _ _ _ _ is there (w.is_alone.ensures.0 w.if-is_alone.true).0
    ])

pub returns-in-Some-clause-renewed : goal.returns-in-Some-clause-renewed
returns-in-Some-clause-renewed c = λ free used bucket_of table there exists.
    let old = c.args.self.now in
    let is = from_table old free used bucket_of table in
    let head : c.in-Some.used ≡ old.places + 1 = c.in-Some.ensures.used.0 in
    let head_within : c.in-Some.used < length old.ages.next.now = c.in-Some.ensures.used.1 in
    let chain : c.in-Some.chain ≡ old.places + c.args.bucket = c.in-Some.ensures.chain.0 in
    let chain_within : c.in-Some.chain < length old.chains.next.now = c.in-Some.ensures.chain.1 in
    let aged = c.move_to.ensures.moved table.ages_linked head_within (omega arith) (λ e. absurd (omega arith)) in
    let chained = c.move_to-in-Some.ensures.moved table.chains_linked chain_within (omega arith) (λ e. absurd (omega arith)) in (
      refl,
      to_table _ _ _ _ (c.move_to.ensures.linked table.ages_linked) (c.move_to-in-Some.ensures.linked table.chains_linked)
          (renewed old.places c.args.place c.args.bucket old.ages.next.now old.chains.next.now _ _ free used bucket_of is there exists (c.move_to-in-Some.ensures.len)
          (moved_as _ _ _ _ _ _ head refl aged) (moved_as _ _ _ _ _ _ chain refl chained)),
    )

pub returns-in-Some-clause-unused : goal.returns-in-Some-clause-unused
returns-in-Some-clause-unused c = λ free used bucket_of table none.
    let old = c.args.self.now in
    let alone : IsAlone old.chains.next.now old.chains.previous.now c.args.place =
    unused_alone _ _ _ _ _ _ _ _ (from_table old free used bucket_of table) table.chains_linked c.if-place-self.false none in
    absurd (false≢true (c.if-is_alone.ensures.1 alone))

pub returns-in-None-clause-renewed : goal.returns-in-None-clause-renewed
returns-in-None-clause-renewed c = λ free used bucket_of table there exists.
    absurd (c.in-None.ensures.none refl _ _ table.ages_linked table.chains_linked (start_within _ _ _ used table.used_list) exists)
