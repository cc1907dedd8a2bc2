use Rattle.std.proofs.Common.{Some, None, refl, ap, ◌∙◌}
use Rattle.ip_defragmenter.specs.FragmentOf.{parts_of}
use Rattle.ip_defragmenter.specs.Added.{is_whole, freed}
use Rattle.ip_defragmenter.proofs.SlotLemmas.{placed_in_use}
use Rattle.ip_defragmenter.proofs.defragmenter.add_sound.Goals as goal

pub returns-in-Some : goal.returns-in-Some
returns-in-Some c =
    let found = c.in-Some.found in
    let placed = c.in-Some.ensures.placed in (
      Some found,
      placed,
      (
        c.store-stored.result,
        record {
          lost = refl;
          outcome = c.outcome_of.ensures;
          index = refl;
          slots = c.free_if_whole.ensures.slots ∙ ap (freed (is_whole c.store-stored.result) found.index) c.in-Some.ensures.slots;
          packets = λ free used holds.
              c.free_if_whole.ensures.packets c.args.settings.now.seed _ _ (c.in-Some.ensures.packets free used holds)
              (placed_in_use c.args.slots.now c.args.settings.now.seed free used c.args.context (parts_of c.args.fragment.now).key found holds (placed.known found refl) (placed.within found refl));
          others = c.store-stored.ensures.others;
          own = c.store-stored.ensures.own;
        },
      ),
    )

pub returns-in-None : goal.returns-in-None
returns-in-None c = (
  None,
  c.in-None.ensures.placed,
  (c.nothing_added.ensures, record { slots = c.in-None.ensures.slots; table = c.in-None.ensures.none refl }, refl),
)
