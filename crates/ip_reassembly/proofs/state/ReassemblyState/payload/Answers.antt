use Rattle.ip_reassembly.proofs.Common.{◌≡◌, ℕ, None, sym, ◌∙◌, ap, cond-true, cond-false, cases_Bool, not_from_false, not, ◌&&◌, take, Some, and_parts, eqb, eqb-true, Option, List, length, ◌≤◌, ◌<◌, ◌+◌, ◌-◌, ◌⊎◌, inl, inr, arith}
use Rattle.std.specs.Borrow.{Bor}
use Rattle.std.specs.Prelude.{MatchOption, slice_range}
use Rattle.std.specs.Option.{option_copied}
use Rattle.ip_reassembly.specs.Payload.{payload_of}
use Rattle.ip_reassembly.proofs.ReceivedLemmas.{whole_in_buffer, no_payload, and_is_right, not_not}
use Rattle.ip_reassembly.specs.Reassembly.{state_fields, is_set}
use Rattle.ip_reassembly.proofs.state.ReassemblyState.payload.Goals as goal

pub returns-then-not-has_payload : goal.returns-then-not-has_payload
returns-then-not-has_payload c = λ s h.
    let none = sym c.has_payload.ensures ∙ c.if-not-has_payload.true in
    elim (cases_Bool s.abandoned) [
      | inl gone ↦ sym (cond-true s.abandoned None (payload_of s.fragments) gone)
      | inr there ↦ sym (cond-false s.abandoned None (payload_of s.fragments) there
          ∙ no_payload (state_fields c.args.self.now c.args.buffer.now) s h (sym (and_is_right _ _ (not_from_false _ (h.abandoned ∙ there))) ∙ none))
    ]

-- The front of a slice that is long enough.
front : (o : Option (Bor (List ℕ))) (xs : List ℕ) (n : ℕ) → n ≤ length xs → MatchOption o ((n < 0) ⊎ (length xs < n)) (λ x. (0 ≤ n) × (n ≤ length xs) × (x.now ≡ slice_range xs 0 n) × (length x.now + 0 ≡ n)) → option_copied o ≡ Some (take n xs)
front None xs n within look = absurd (elim look [ inl low ↦ (let h : ⊥ = omega (arith, low) in h) | inr short ↦ (let h : ⊥ = omega (arith, short, within) in h) ])
front (Some x) xs n within look = ap Some (look.2 ∙ ap (λ (k : ℕ). take k xs) (let e : n - 0 ≡ n = omega arith in e))

pub returns : goal.returns
returns c = λ s h.
    let all = and_parts (not (is_set c.args.self.now.abandoned)) (is_set c.args.self.now.ended && eqb c.args.self.now.count c.args.self.now.reach) (sym c.has_payload.ensures ∙ c.if-not-has_payload.false) in
    let parts = and_parts (is_set c.args.self.now.ended) (eqb c.args.self.now.count c.args.self.now.reach) all.1 in
    let whole = whole_in_buffer (state_fields c.args.self.now c.args.buffer.now) s h parts.0 (eqb-true c.args.self.now.count c.args.self.now.reach parts.1) in
    front c.get.result c.args.buffer.now c.args.self.now.reach whole.0 c.get.ensures.lookup.0
    ∙ sym (cond-false s.abandoned None (payload_of s.fragments) (sym h.abandoned ∙ (sym (not_not (is_set c.args.self.now.abandoned)) ∙ ap not all.0)) ∙ whole.1)
