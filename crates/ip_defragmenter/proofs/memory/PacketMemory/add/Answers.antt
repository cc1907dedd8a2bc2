use Rattle.std.proofs.Common.{ℕ, true, sym, ap, ◌∙◌, subst, List, refl}
use Rattle.std.proofs.lemmas.Bool.{cond-false}
use Rattle.std.specs.Prelude.{Option}
use Rattle.std.specs.Option.{option_or}
use Rattle.ip_defragmenter.specs.FragmentOf.{parts_of}
use Rattle.ip_defragmenter.specs.Memory.{FirstParts, HoldsStored, IsWritable, refusal_after, outcome_by, stored_by, is_store_conflict, stored_none, stored_all}
use Rattle.ip_defragmenter.specs.declared.err.StoreError.{StoreError}
use Rattle.ip_defragmenter.proofs.MemoryLemmas.{own_harmless}
use Rattle.ip_defragmenter.proofs.PiecesLemmas.{joined_outcome}
use Rattle.ip_defragmenter.proofs.WholeLemmas.{writable_by}
use Rattle.ip_defragmenter.proofs.memory.PacketMemory.add.Goals as goal

pub returns-in-Some-clause-outcome : goal.returns-in-Some-clause-outcome
returns-in-Some-clause-outcome c = λ s h.
    let f = parts_of c.args.fragment.now in
    ap (λ (o : Option StoreError). outcome_by s f (option_or o (refusal_after s f))) c.in-Some.ensures.refusal

pub returns-in-Some-clause-stored : goal.returns-in-Some-clause-stored
returns-in-Some-clause-stored c = λ s h.
    let f = parts_of c.args.fragment.now in
    let e = c.in-Some.error in
    subst (λ (o : Option StoreError). HoldsStored c.args.self.now (stored_by s f (option_or o (refusal_after s f)))) c.in-Some.ensures.refusal
    (subst (HoldsStored c.args.self.now) (sym (cond-false (is_store_conflict e) (record s { payload = record s.payload { abandoned = true } }) s (own_harmless f e (sym c.in-Some.ensures.refusal)))) h)

pub returns-in-None-clause-outcome : goal.returns-in-None-clause-outcome
returns-in-None-clause-outcome c = λ s h.
    let f = parts_of c.args.fragment.now in
    c.add_sound.ensures.outcome s h ∙ ap (λ (o : Option StoreError). outcome_by s f (option_or o (refusal_after s f))) c.in-None.ensures.refusal

pub returns-in-None-clause-stored : goal.returns-in-None-clause-stored
returns-in-None-clause-stored c = λ s h.
    let f = parts_of c.args.fragment.now in
    subst (λ (o : Option StoreError). HoldsStored c.add_sound.new.self (stored_by s f (option_or o (refusal_after s f)))) c.in-None.ensures.refusal (c.add_sound.ensures.stored s h)

pub returns-in-None-clause-whole : goal.returns-in-None-clause-whole
returns-in-None-clause-whole c = λ s h whole.
    let f = parts_of c.args.fragment.now in
    subst (λ (o : Option StoreError). (p : FirstParts) × ((payload : List ℕ) × IsWritable (stored_by s f (option_or o (refusal_after s f))) p payload)) c.in-None.ensures.refusal
    (writable_by s f c.add_sound.new.self (refusal_after s f) refl (sym whole ∙ c.add_sound.ensures.outcome s h) (c.add_sound.ensures.stored s h))

pub returns-in-Some-clause-pieces : goal.returns-in-Some-clause-pieces
returns-in-Some-clause-pieces c = λ payload pieces limit given h split fits all joinable.
    let f = parts_of c.args.fragment.now in
    ap (λ (o : Option StoreError). outcome_by (stored_all (stored_none limit) given) f (option_or o (refusal_after (stored_all (stored_none limit) given) f))) c.in-Some.ensures.refusal
    ∙ joined_outcome payload pieces limit given f split fits all joinable

pub returns-in-None-clause-pieces : goal.returns-in-None-clause-pieces
returns-in-None-clause-pieces c = λ payload pieces limit given h split fits all joinable.
    let f = parts_of c.args.fragment.now in
    let s = stored_all (stored_none limit) given in
    c.add_sound.ensures.outcome s h ∙ (ap (λ (o : Option StoreError). outcome_by s f (option_or o (refusal_after s f))) c.in-None.ensures.refusal
    ∙ joined_outcome payload pieces limit given f split fits all joinable)
