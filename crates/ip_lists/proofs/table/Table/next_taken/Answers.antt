use Rattle.std.proofs.Common.{◌≡◌, ℕ, Bool, [], ◌∷◌, Some, None, sym, ◌∙◌, ap, arith}
use Rattle.std.proofs.lemmas.Option.{none-some, same_Some}
use Rattle.ip_lists.proofs.table.Table.next_taken.Goals as goal
use Rattle.ip_lists.proofs.table.Table.next_taken.Goals.{in-Some, in-None+in_ok-first-in-None}

pub returns-in_err-first-in-None-clause-free : goal.returns-in_err-first-in-None-clause-free
returns-in_err-first-in-None-clause-free c = λ p ps list _. absurd (none-some p (sym c.in-None.is ∙ c.first.ensures.list (p ∷ ps) list))

pub returns-in_err-first-in-None-clause-used : goal.returns-in_err-first-in-None-clause-used
returns-in_err-first-in-None-clause-used c = λ none p ps list _. absurd (none-some p (c.in_err-first-in-None.ensures.list (p ∷ ps) list))

pub returns-then-place-self-clause-free : goal.returns-then-place-self-clause-free
returns-then-place-self-clause-free c = λ p ps list _.
    let first : c.first.result ≡ Some p = c.first.ensures.list (p ∷ ps) list in
    elim c.match-first.branch [
      | in-Some w ↦ rw w.place-is (cc)
      | in-None+in_ok-first-in-None w ↦ absurd (none-some p (sym w.in-None.is ∙ first))
    ]

pub returns-then-place-self-clause-used : goal.returns-then-place-self-clause-used
returns-then-place-self-clause-used c = λ none p ps list _.
    let empty : c.first.result ≡ None = c.first.ensures.list [] none in
    elim c.match-first.branch [
      | in-Some w ↦ absurd (none-some w.in-Some.place (sym empty ∙ w.in-Some.is))
      | in-None+in_ok-first-in-None w ↦
          let first : w.first-in-None.result ≡ Some p = w.first-in-None.ensures.list (p ∷ ps) list in
          let was : w.first-in-None.result ≡ Some w.in_ok-first-in-None.field-0 = w.in_ok-first-in-None.was in
          rw w.place-is (cc)
    ]

pub returns-then-place-self-clause-none : goal.returns-then-place-self-clause-none
returns-then-place-self-clause-none c = λ none unused.
    let empty : c.first.result ≡ None = c.first.ensures.list [] none in
    absurd (elim c.match-first.branch [
      | in-Some w ↦ none-some w.in-Some.place (sym empty ∙ w.in-Some.is)
      | in-None+in_ok-first-in-None w ↦
          let first : w.first-in-None.result ≡ None = w.first-in-None.ensures.list [] unused in
          let was : w.first-in-None.result ≡ Some w.in_ok-first-in-None.field-0 = w.in_ok-first-in-None.was in
          none-some w.in_ok-first-in-None.field-0 (sym first ∙ was)
    ])

pub returns-else-place-self-clause-free : goal.returns-else-place-self-clause-free
returns-else-place-self-clause-free c = λ p ps list within.
    let first : c.first.result ≡ Some p = c.first.ensures.list (p ∷ ps) list in
    absurd (elim c.match-first.branch [
      | in-Some w ↦
          let same : w.in-Some.place ≡ p = same_Some _ _ (sym w.in-Some.is ∙ first) in
          let at : c.match-first.place.0 ≡ w.in-Some.place = ap (λ (t : ℕ × Bool). t.0) w.place-is in
          omega arith
      | in-None+in_ok-first-in-None w ↦ none-some p (sym w.in-None.is ∙ first)
    ])

pub returns-else-place-self-clause-used : goal.returns-else-place-self-clause-used
returns-else-place-self-clause-used c = λ none p ps list within.
    let empty : c.first.result ≡ None = c.first.ensures.list [] none in
    absurd (elim c.match-first.branch [
      | in-Some w ↦ none-some w.in-Some.place (sym empty ∙ w.in-Some.is)
      | in-None+in_ok-first-in-None w ↦
          let first : w.first-in-None.result ≡ Some p = w.first-in-None.ensures.list (p ∷ ps) list in
          let was : w.first-in-None.result ≡ Some w.in_ok-first-in-None.field-0 = w.in_ok-first-in-None.was in
          let same : w.in_ok-first-in-None.field-0 ≡ p = same_Some _ _ (sym was ∙ first) in
          let at : c.match-first.place.0 ≡ w.in_ok-first-in-None.field-0 = ap (λ (t : ℕ × Bool). t.0) w.place-is in
          omega arith
    ])
