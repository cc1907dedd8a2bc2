-- Where tests lead a packet.
use Rattle.std.proofs.Common.{suc, drop-cons, get_or}
use Rattle.ip_spec.proofs.Common.{◌≡◌, ℕ, ◌+◌, ◌-◌, ◌<◌, ◌≤◌, List, [], ◌∷◌, length, drop, refl, sym, ap, ◌∙◌, subst, arith, common_steps, eqb_tells, inl, inr, cases_eq, Bool, false, ◌==◌, if◌then◌else◌, drop_all, drop-drop}
use Rattle.ip_filter.specs.Program.{led_to, passes}
use Rattle.ip_filter.specs.declared.filter.Test.{Test}

other_index : (i next to : ℕ) → (i ≡ next → ⊥) → (if i == next then to else next) ≡ next
other_index i next to other = grind (arith, common_steps, eqb_tells, other)

module _ (met : Test → Bool) where
  abbrev after : Test → ℕ
  after x = if met x then x.if_met else x.if_not

  -- An index that is none of the tests' stays.
  pub left_behind : (i next : ℕ) (xs : List Test) → next < i → led_to met i next xs ≡ next
  left_behind i next [] out = refl
  left_behind i next (x ∷ xs) out = ap (λ n. led_to met (suc i) n xs) (other_index i next (after x) (λ e. omega (arith, e, out))) ∙ left_behind (suc i) next xs (omega (arith, out))

  pub past_all : (i next : ℕ) (xs : List Test) → i + length xs ≤ next → led_to met i next xs ≡ next
  past_all i next [] out = refl
  past_all i next (x ∷ xs) out = ap (λ n. led_to met (suc i) n xs) (other_index i next (after x) (λ e. omega (arith, e, out))) ∙ past_all (suc i) next xs (omega (arith, out))

  -- Tests before the next one don't matter.
  skipped : (i next : ℕ) (xs : List Test) → i ≤ next → led_to met i next xs ≡ led_to met next next (drop (next - i) xs)
  skipped i next [] less = ap (λ ys. led_to met next next ys) (sym (drop_all (next - i) [] (omega arith)))
  skipped i next (x ∷ xs) less = elim (cases_eq i next) [
    | inl same ↦
        let none : 0 ≡ next - next = omega arith in
        subst (λ j. led_to met j next (x ∷ xs) ≡ led_to met next next (drop (next - j) (x ∷ xs))) (sym same) (ap (λ k. led_to met next next (drop k (x ∷ xs))) none)
    | inr other ↦
        let more : suc (next - suc i) ≡ next - i = omega (arith, less, other) in
        ap (λ n. led_to met (suc i) n xs) (other_index i next (after x) other) ∙ skipped (suc i) next xs (omega (arith, less, other)) ∙ ap (λ k. led_to met next next (drop k (x ∷ xs))) more
  ]

  -- one test is run
  module _ (xs : List Test) (i to : ℕ) (d : Test) (within : i < length xs) (is : to ≡ after (get_or xs i d)) where
    tested : led_to met i i (drop i xs) ≡ led_to met (suc i) to (drop (suc i) xs)
    tested =
        let this : (if i == i then after (get_or xs i d) else i) ≡ to = grind (arith, common_steps, eqb_tells, sym is) in
        rw (drop-cons xs i d within) (ap (λ n. led_to met (suc i) n (drop (suc i) xs)) this)

    pub led_on : i < to → led_to met i i (drop i xs) ≡ led_to met 0 0 xs → led_to met to to (drop to xs) ≡ led_to met 0 0 xs
    led_on later so_far =
        let all : suc i + (to - suc i) ≡ to = omega (arith, later) in
        sym (tested ∙ skipped (suc i) to (drop (suc i) xs) (omega (arith, later)) ∙ ap (led_to met to to) (drop-drop (to - suc i) (suc i) xs ∙ ap (λ k. drop k xs) all)) ∙ so_far

    pub led_back : to ≤ i → length xs ≤ 64 → led_to met i i (drop i xs) ≡ led_to met 0 0 xs → false ≡ passes xs met
    led_back no_later few so_far =
        let end : led_to met 0 0 xs ≡ to = sym so_far ∙ tested ∙ left_behind (suc i) to (drop (suc i) xs) (omega (arith, no_later)) in
        rw end (grind (arith, common_steps, eqb_tells, no_later, within, few))

  pub at_the_end : (xs : List Test) (i : ℕ) → length xs ≤ i → led_to met i i (drop i xs) ≡ led_to met 0 0 xs → (i == 64) ≡ passes xs met
  at_the_end xs i out so_far = ap (λ n. n == 64) (sym (ap (led_to met i i) (drop_all i xs out)) ∙ so_far)
