use Rattle.std.proofs.Common.{◌+◌, ◌<◌, ◌∷◌, ◌++◌, length, refl, arith}
use Rattle.std.specs.Prelude.{Contains}
use Rattle.std.proofs.lemmas.Bool.{false≢true}
use Rattle.std.proofs.lemmas.List.Elements.{Contains-append_right}
use Rattle.ip_lists.specs.Lists.{IsAlone}
use Rattle.ip_lists.proofs.Paths.{start_within}
use Rattle.ip_lists.proofs.Moved.{taken_out}
use Rattle.ip_lists.proofs.Filters.{has_head}
use Rattle.ip_lists.proofs.Tables.{from_table, to_table, released, used_alone, unused_alone}
use Rattle.ip_lists.proofs.table.Table.release.Goals as goal
use Rattle.ip_lists.proofs.table.Table.release.Goals.{then-place-self-via-then-place-self, then-place-self-via-else-place-self+then-is_alone, then-place-self-via-else-place-self+else-is_alone+then-not-remove}

pub returns-then-place-self-clause-released : goal.returns-then-place-self-clause-released
returns-then-place-self-clause-released c = λ free xs ys bucket_of table.
    let old = c.args.self.now in
    let is = from_table old free (xs ++ c.args.place ∷ ys) bucket_of table in
    let there : Contains (xs ++ c.args.place ∷ ys) c.args.place = Contains-append_right xs (c.args.place ∷ ys) c.args.place (has_head c.args.place ys) in
    let within : c.args.place < old.places = is.chained.below c.args.place there in
    absurd (elim c.then-place-self.branch [
      | then-place-self-via-then-place-self w ↦ omega arith
      | then-place-self-via-else-place-self+then-is_alone w ↦ used_alone _ _ _ _ _ _ _ is there (w.is_alone.ensures.0 w.if-is_alone.true).0
      | then-place-self-via-else-place-self+else-is_alone+then-not-remove w ↦
          let exists : old.places + bucket_of c.args.place < length old.chains.next.now = is.chained.bucket c.args.place there in
          false≢true (w.if-not-remove.ensures.done table.chains_linked (omega arith))
    ])

pub returns-clause-released : goal.returns-clause-released
returns-clause-released c = λ free xs ys bucket_of table.
    let old = c.args.self.now in
    let is = from_table old free (xs ++ c.args.place ∷ ys) bucket_of table in
    let within : c.args.place < old.places = c.if-place-self.false in
    let head_within : old.places < length old.ages.next.now = start_within old.ages.next.now old.places old.places free table.free_list in
    let aged = c.move_to.ensures.moved table.ages_linked head_within (omega arith) (λ e. absurd (omega arith)) in
    let alone = c.if-not-remove.ensures.alone refl in (
      refl,
      to_table _ _ _ _ (c.move_to.ensures.linked table.ages_linked) (c.remove.ensures.linked table.chains_linked)
          (released old.places c.args.place old.ages.next.now old.chains.next.now _ _ free xs ys bucket_of is (c.remove.ensures.len) aged
          (taken_out _ _ _ (c.remove.ensures.taken table.chains_linked) (c.remove.ensures.others table.chains_linked)) alone.0),
    )

pub returns-clause-unused : goal.returns-clause-unused
returns-clause-unused c = λ free used bucket_of table none.
    let old = c.args.self.now in
    let alone : IsAlone old.chains.next.now old.chains.previous.now c.args.place =
    unused_alone _ _ _ _ _ _ _ _ (from_table old free used bucket_of table) table.chains_linked c.if-place-self.false none in
    absurd (false≢true (c.if-is_alone.ensures.1 alone))
