use Rattle.ip_reassembly.proofs.Common.{◌≡◌, ℕ, true, List, None, Fragment, sym, ◌∙◌, ap, subst, fragment_at, list_any, is_same, ◌&&◌, Bool}
use Rattle.std.specs.Prelude.{Result, Ok, Err}
use Rattle.std.proofs.lemmas.Bool.{MatchBool-at_true, MatchBool-at_false}
use Rattle.ip_reassembly.specs.Refusal.{refusal, is_conflict}
use Rattle.ip_reassembly.specs.Received.{progress_of, outcome_of, received_after}
use Rattle.ip_reassembly.specs.Reassembly.{Fields, AreReceived, IsNew, state_fields, is_set}
use Rattle.ip_reassembly.specs.declared.err.AddError.{AddError}
use Rattle.ip_reassembly.specs.declared.progress.Progress.{Progress}
use Rattle.ip_reassembly.proofs.ReceivedLemmas.{not_refused, outcome_abandoned, outcome_refused, outcome_accepted, with_same, received_refused}
use Rattle.ip_reassembly.proofs.state.ReassemblyState.add.Goals as goal

pub returns-then-is_set-clause-outcome : goal.returns-then-is_set-clause-outcome
returns-then-is_set-clause-outcome c = λ s h. sym (outcome_abandoned s (fragment_at c.args.offset c.args.more c.args.bytes.now) (sym h.abandoned ∙ (sym c.is_set.ensures ∙ c.if-is_set.true))).0

pub returns-then-is_set-clause-received : goal.returns-then-is_set-clause-received
returns-then-is_set-clause-received c = λ s h. subst (AreReceived (state_fields c.args.self.now c.args.buffer.now)) (sym (outcome_abandoned s (fragment_at c.args.offset c.args.more c.args.bytes.now) (sym h.abandoned ∙ (sym c.is_set.ensures ∙ c.if-is_set.true))).1) h

pub returns-in-Ok-true-clause-outcome : goal.returns-in-Ok-true-clause-outcome
returns-in-Ok-true-clause-outcome c = λ s h.
    let at : c.from-first.result ≡ c.args.offset = c.from-first.ensures ∙ c.value.ensures.value in
    let new : IsNew s (fragment_at c.from-first.result c.args.more c.args.bytes.now) = MatchBool-at_true _ _ c.in-Ok-true.field-0-test (c.in-Ok-true.ensures.verdict s h) in
    subst (λ (n : ℕ). (let r : Result Progress AddError = Ok c.progress.result in r) ≡ outcome_of s (fragment_at n c.args.more c.args.bytes.now)) at
    (ap Ok (c.progress.ensures _ (c.keep.ensures.kept s h new)) ∙ sym (outcome_accepted s (fragment_at c.from-first.result c.args.more c.args.bytes.now) (sym h.abandoned ∙ (sym c.is_set.ensures ∙ c.if-is_set.false)) (not_refused s (fragment_at c.from-first.result c.args.more c.args.bytes.now) new)).0)

pub returns-in-Ok-true-clause-received : goal.returns-in-Ok-true-clause-received
returns-in-Ok-true-clause-received c = λ s h.
    let at : c.from-first.result ≡ c.args.offset = c.from-first.ensures ∙ c.value.ensures.value in
    let new : IsNew s (fragment_at c.from-first.result c.args.more c.args.bytes.now) = MatchBool-at_true _ _ c.in-Ok-true.field-0-test (c.in-Ok-true.ensures.verdict s h) in
    subst (λ (n : ℕ). AreReceived (state_fields c.keep.new.self c.keep.new.buffer) (received_after s (fragment_at n c.args.more c.args.bytes.now))) at
    (subst (AreReceived (state_fields c.keep.new.self c.keep.new.buffer)) (sym (outcome_accepted s (fragment_at c.from-first.result c.args.more c.args.bytes.now) (sym h.abandoned ∙ (sym c.is_set.ensures ∙ c.if-is_set.false)) (not_refused s (fragment_at c.from-first.result c.args.more c.args.bytes.now) new)).1) (c.keep.ensures.kept s h new))

pub returns-in-Ok-false-clause-outcome : goal.returns-in-Ok-false-clause-outcome
returns-in-Ok-false-clause-outcome c = λ s h.
    let at : c.from-first.result ≡ c.args.offset = c.from-first.ensures ∙ c.value.ensures.value in
    let f : Fragment = fragment_at c.from-first.result c.args.more c.args.bytes.now in
    let same : (refusal s.limit s.fragments f ≡ None) × (list_any (is_same f) s.fragments ≡ true) = MatchBool-at_false _ _ c.in-Ok-false.field-0-test (c.in-Ok-false.ensures.verdict s h) in
    subst (λ (n : ℕ). (let r : Result Progress AddError = Ok c.progress-in-Ok-false.result in r) ≡ outcome_of s (fragment_at n c.args.more c.args.bytes.now)) at
    (ap Ok (c.progress-in-Ok-false.ensures s h ∙ sym (ap progress_of (with_same s.fragments f same.1))) ∙ sym (outcome_accepted s f (sym h.abandoned ∙ (sym c.is_set.ensures ∙ c.if-is_set.false)) same.0).0)

pub returns-in-Ok-false-clause-received : goal.returns-in-Ok-false-clause-received
returns-in-Ok-false-clause-received c = λ s h.
    let at : c.from-first.result ≡ c.args.offset = c.from-first.ensures ∙ c.value.ensures.value in
    let f : Fragment = fragment_at c.from-first.result c.args.more c.args.bytes.now in
    let same : (refusal s.limit s.fragments f ≡ None) × (list_any (is_same f) s.fragments ≡ true) = MatchBool-at_false _ _ c.in-Ok-false.field-0-test (c.in-Ok-false.ensures.verdict s h) in
    subst (λ (n : ℕ). AreReceived (state_fields c.args.self.now c.args.buffer.now) (received_after s (fragment_at n c.args.more c.args.bytes.now))) at
    (subst (AreReceived (state_fields c.args.self.now c.args.buffer.now)) (sym ((outcome_accepted s f (sym h.abandoned ∙ (sym c.is_set.ensures ∙ c.if-is_set.false)) same.0).1 ∙ ap (λ (fs : List Fragment). record s { fragments = fs }) (with_same s.fragments f same.1))) h)

pub returns-in-Err-clause-outcome : goal.returns-in-Err-clause-outcome
returns-in-Err-clause-outcome c = λ s h.
    let at : c.from-first.result ≡ c.args.offset = c.from-first.ensures ∙ c.value.ensures.value in
    subst (λ (n : ℕ). (let r : Result Progress AddError = Err c.in-Err.error in r) ≡ outcome_of s (fragment_at n c.args.more c.args.bytes.now)) at
    (sym (outcome_refused s (fragment_at c.from-first.result c.args.more c.args.bytes.now) c.in-Err.error (sym h.abandoned ∙ (sym c.is_set.ensures ∙ c.if-is_set.false)) (c.in-Err.ensures.verdict s h)).0)

pub returns-in-Err-clause-received : goal.returns-in-Err-clause-received
returns-in-Err-clause-received c = λ s h.
    let at : c.from-first.result ≡ c.args.offset = c.from-first.ensures ∙ c.value.ensures.value in
    let f : Fragment = fragment_at c.from-first.result c.args.more c.args.bytes.now in
    let q : Fields = state_fields (record c.args.self.now { abandoned = c.abandoned_by-self.result }) c.args.buffer.now in
    subst (λ (n : ℕ). AreReceived q (received_after s (fragment_at n c.args.more c.args.bytes.now))) at
    (subst (AreReceived q) (sym (outcome_refused s f c.in-Err.error (sym h.abandoned ∙ (sym c.is_set.ensures ∙ c.if-is_set.false)) (c.in-Err.ensures.verdict s h)).1)
    (received_refused (state_fields c.args.self.now c.args.buffer.now) s (is_set c.abandoned_by-self.result) (s.abandons && is_conflict c.in-Err.error)
    (c.abandoned_by-self.ensures ∙ ap (λ (b : Bool). b && is_conflict c.in-Err.error) h.abandons) h))
