use Rattle.std.proofs.Common.{◌≡◌, false, List, ℕ, sym, ap, ◌∙◌, subst, cond, refl}
use Rattle.std.specs.Prelude.{Option, Some, None, Ok, is_some}
use Rattle.std.specs.Option.{option_map}
use Rattle.ip_reassembly.specs.Refusal.{is_conflict}
use Rattle.ip_reassembly.specs.Received.{with_fragment}
use Rattle.ip_reassembly.specs.Payload.{payload_of}
use Rattle.ip_reassembly.specs.Reassembly.{HasArrived}
use Rattle.ip_reassembly.specs.declared.progress.Progress.{Progress}
use Rattle.ip_reassembly.specs.declared.progress.Progress.TheVariants.{MoreWanted}
use Rattle.ip_reassembly.specs.declared.state.ReassemblyState.{ReassemblyState}
use Rattle.ip_defragmenter.specs.FragmentOf.{parts_of}
use Rattle.ip_defragmenter.specs.Memory.{FirstParts, HoldsStored, first_after, piece_of, refusal_after, outcome_by, stored_by, stored_with}
use Rattle.ip_defragmenter.specs.declared.err.StoreError.{StoreError}
use Rattle.ip_defragmenter.specs.declared.err.StoreError.TheVariants.{Payload}
use Rattle.ip_defragmenter.proofs.MemoryLemmas.{took, refused_for, when_abandoned, when_mixed, when_too_long, by_payload, both_progress, headers_after, refused_as}
use Rattle.ip_defragmenter.proofs.memory.PacketMemory.add_sound.Goals as goal

pub returns-then-is_abandoned-clause-outcome : goal.returns-then-is_abandoned-clause-outcome
returns-then-is_abandoned-clause-outcome c = λ s h.
    let f = parts_of c.args.fragment.now in
    sym (ap (outcome_by s f) (when_abandoned s f (sym (c.is_abandoned.ensures c.args.self.now.payload s.payload h.payload) ∙ c.if-is_abandoned.true)))

pub returns-then-is_abandoned-clause-stored : goal.returns-then-is_abandoned-clause-stored
returns-then-is_abandoned-clause-stored c = λ s h.
    let f = parts_of c.args.fragment.now in
    subst (λ (o : Option StoreError). HoldsStored c.args.self.now (stored_by s f o)) (sym (when_abandoned s f (sym (c.is_abandoned.ensures c.args.self.now.payload s.payload h.payload) ∙ c.if-is_abandoned.true))) h

pub returns-then-mixes-clause-outcome : goal.returns-then-mixes-clause-outcome
returns-then-mixes-clause-outcome c = λ s h.
    let f = parts_of c.args.fragment.now in
    let alive : s.payload.abandoned ≡ false = sym (c.is_abandoned.ensures c.args.self.now.payload s.payload h.payload) ∙ c.if-is_abandoned.false in
    sym (ap (outcome_by s f) (when_mixed s f alive (sym (c.mixes.ensures s.points h.points) ∙ c.if-mixes.true)))

pub returns-then-mixes-clause-stored : goal.returns-then-mixes-clause-stored
returns-then-mixes-clause-stored c = λ s h.
    let f = parts_of c.args.fragment.now in
    let alive : s.payload.abandoned ≡ false = sym (c.is_abandoned.ensures c.args.self.now.payload s.payload h.payload) ∙ c.if-is_abandoned.false in
    subst (λ (o : Option StoreError). HoldsStored (record c.args.self.now { state = c.abandon.new.self }) (stored_by s f o)) (sym (when_mixed s f alive (sym (c.mixes.ensures s.points h.points) ∙ c.if-mixes.true)))
    (record { payload = c.abandon.ensures c.args.self.now.payload s.payload h.payload; abandons = h.abandons; first = h.first; headers = h.headers; points = h.points })

pub returns-then-exceeds-clause-outcome : goal.returns-then-exceeds-clause-outcome
returns-then-exceeds-clause-outcome c = λ s h.
    let f = parts_of c.args.fragment.now in
    let alive : s.payload.abandoned ≡ false = sym (c.is_abandoned.ensures c.args.self.now.payload s.payload h.payload) ∙ c.if-is_abandoned.false in
    sym (ap (outcome_by s f) (when_too_long s f alive (sym (c.mixes.ensures s.points h.points) ∙ c.if-mixes.false) (sym (c.exceeds.ensures s h) ∙ c.if-exceeds.true)))

pub returns-then-exceeds-clause-stored : goal.returns-then-exceeds-clause-stored
returns-then-exceeds-clause-stored c = λ s h.
    let f = parts_of c.args.fragment.now in
    let alive : s.payload.abandoned ≡ false = sym (c.is_abandoned.ensures c.args.self.now.payload s.payload h.payload) ∙ c.if-is_abandoned.false in
    subst (λ (o : Option StoreError). HoldsStored c.args.self.now (stored_by s f o)) (sym (when_too_long s f alive (sym (c.mixes.ensures s.points h.points) ∙ c.if-mixes.false) (sym (c.exceeds.ensures s h) ∙ c.if-exceeds.true))) h

pub returns-in-Ok-clause-outcome : goal.returns-in-Ok-clause-outcome
returns-in-Ok-clause-outcome c = λ s h.
    let f = parts_of c.args.fragment.now in
    let alive : s.payload.abandoned ≡ false = sym (c.is_abandoned.ensures c.args.self.now.payload s.payload h.payload) ∙ c.if-is_abandoned.false in
    let t = took s.payload (piece_of f) c.in-Ok.progress alive (c.in-Ok.ensures.outcome s.payload h.payload) in
    let none : refusal_after s f ≡ None = by_payload s f alive (sym (c.mixes.ensures s.points h.points) ∙ c.if-mixes.false) (sym (c.exceeds.ensures s h) ∙ c.if-exceeds.false) ∙ ap (option_map Payload) t.none in
    let whole = is_some (payload_of (with_fragment s.payload.fragments (piece_of f))) in
    ap Ok (c.progress.ensures
    ∙ (ap (λ (o : Option FirstParts). cond (is_some o) c.in-Ok.progress MoreWanted) (c.note.ensures.first ∙ ap (λ (o : Option FirstParts). first_after o f) h.first)
    ∙ (ap (λ (p : Progress). cond (is_some (first_after s.first f)) p MoreWanted) t.progress ∙ both_progress whole (is_some (first_after s.first f)))))
    ∙ sym (ap (outcome_by s f) none)

pub returns-in-Ok-clause-stored : goal.returns-in-Ok-clause-stored
returns-in-Ok-clause-stored c = λ s h.
    let f = parts_of c.args.fragment.now in
    let alive : s.payload.abandoned ≡ false = sym (c.is_abandoned.ensures c.args.self.now.payload s.payload h.payload) ∙ c.if-is_abandoned.false in
    let t = took s.payload (piece_of f) c.in-Ok.progress alive (c.in-Ok.ensures.outcome s.payload h.payload) in
    let none : refusal_after s f ≡ None = by_payload s f alive (sym (c.mixes.ensures s.points h.points) ∙ c.if-mixes.false) (sym (c.exceeds.ensures s h) ∙ c.if-exceeds.false) ∙ ap (option_map Payload) t.none in
    subst (λ (o : Option StoreError). HoldsStored c.note.new.self (stored_by s f o)) (sym none) (record {
      payload =
          subst (λ (r : ReassemblyState). HasArrived r c.note.new.self.payload (stored_with s f).payload) (sym c.note.ensures.state)
          (subst (λ (b : List ℕ). HasArrived c.add.new.self b (stored_with s f).payload) (sym c.note.ensures.payload)
          (subst (HasArrived c.add.new.self c.add.new.buffer) t.after (c.in-Ok.ensures.received s.payload h.payload)));
      abandons = h.abandons;
      first = c.note.ensures.first ∙ ap (λ (o : Option FirstParts). first_after o f) h.first;
      headers = headers_after s.first f h.headers c.requires.sound;
      points = c.note.ensures.points s.points h.points;
    })

pub returns-in-Err-clause-outcome : goal.returns-in-Err-clause-outcome
returns-in-Err-clause-outcome c = λ s h.
    let f = parts_of c.args.fragment.now in
    let alive : s.payload.abandoned ≡ false = sym (c.is_abandoned.ensures c.args.self.now.payload s.payload h.payload) ∙ c.if-is_abandoned.false in
    let t = refused_for s.payload (piece_of f) c.in-Err.error alive (c.in-Err.ensures.outcome s.payload h.payload) in
    sym (ap (outcome_by s f) (by_payload s f alive (sym (c.mixes.ensures s.points h.points) ∙ c.if-mixes.false) (sym (c.exceeds.ensures s h) ∙ c.if-exceeds.false) ∙ ap (option_map Payload) t.some))

pub returns-in-Err-clause-stored : goal.returns-in-Err-clause-stored
returns-in-Err-clause-stored c = λ s h.
    let f = parts_of c.args.fragment.now in
    let alive : s.payload.abandoned ≡ false = sym (c.is_abandoned.ensures c.args.self.now.payload s.payload h.payload) ∙ c.if-is_abandoned.false in
    let t = refused_for s.payload (piece_of f) c.in-Err.error alive (c.in-Err.ensures.outcome s.payload h.payload) in
    let some : refusal_after s f ≡ Some (Payload c.in-Err.error) = by_payload s f alive (sym (c.mixes.ensures s.points h.points) ∙ c.if-mixes.false) (sym (c.exceeds.ensures s h) ∙ c.if-exceeds.false) ∙ ap (option_map Payload) t.some in
    let m = record c.args.self.now { state = c.add.new.self; payload = c.add.new.buffer } in
    subst (λ (o : Option StoreError). HoldsStored m (stored_by s f o)) (sym some)
    (subst (HoldsStored m) (refused_as s c.in-Err.error (is_conflict c.in-Err.error) h.abandons alive refl) (record {
      payload = subst (HasArrived c.add.new.self c.add.new.buffer) t.after (c.in-Err.ensures.received s.payload h.payload);
      abandons = h.abandons;
      first = h.first;
      headers = h.headers;
      points = h.points;
    }))
