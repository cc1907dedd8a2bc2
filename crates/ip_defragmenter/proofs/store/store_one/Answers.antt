use Rattle.std.proofs.Common.{sym, ap, subst, ◌∙◌}
use Rattle.std.specs.Prelude.{Option}
use Rattle.std.specs.Option.{option_or}
use Rattle.ip_defragmenter.specs.FragmentOf.{parts_of}
use Rattle.ip_defragmenter.specs.Memory.{HoldsStored, refusal_after, outcome_by, stored_by}
use Rattle.ip_defragmenter.specs.Memories.{kept_in}
use Rattle.ip_defragmenter.specs.declared.err.StoreError.{StoreError}
use Rattle.ip_defragmenter.proofs.store.store_one.Goals as goal

pub returns : goal.returns
returns c =
    let f = parts_of c.args.fragment.now in
    record {
      stored = λ s h.
          let t = kept_in c.args.is_known s in
          subst (λ (o : Option StoreError). HoldsStored c.add_sound.new.self (stored_by t f (option_or o (refusal_after t f)))) (sym c.requires.sound) (c.add_sound.ensures.stored t (c.prepare.ensures s h));
      outcome = λ s h.
          let t = kept_in c.args.is_known s in
          c.add_sound.ensures.outcome t (c.prepare.ensures s h) ∙ ap (λ (o : Option StoreError). outcome_by t f (option_or o (refusal_after t f))) (sym c.requires.sound);
    }
