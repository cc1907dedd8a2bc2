-- Blocks of packets, of which all take each test before any takes the next one.
use Rattle.std.proofs.Common.{◌≡◌, ℕ, ◌+◌, ◌<◌, ◌≤◌, ◌==◌, zero, suc, Bool, List, [], ◌∷◌, length, get_or, set, drop, replicate, refl, sym, ap, ◌∙◌, subst, arith, add-one, drop-cons, if◌then◌else◌, inl, inr}
use Rattle.std.proofs.lemmas.List.{get_or-set_same, get_or-set_other}
use Rattle.std.proofs.lemmas.Bool.{cases_eq}
use Rattle.ip_filter.specs.Program.{led_to}
use Rattle.ip_filter.specs.declared.filter.Test.{Test}
use Rattle.ip_filter.specs.declared.metadata.Metadata.{Metadata}
use Rattle.ip_batches.specs.Blocks.{met_by, after_test, AreLed}

-- A list that has a place has an element.
pub element : {X : Type 0} (xs : List X) (i : ℕ) → i < length xs → X
element [] i l = absurd (let h : ⊥ = omega (arith, l) in h)
element (x ∷ xs) i l = x

-- One packet more takes a test.
module _ (x : Test) (i : ℕ) (metadata : List Metadata) (old : List ℕ) where
  abbrev BeforeLed : ℕ → List ℕ → Type 0
  BeforeLed place next = (j : ℕ) (d : Metadata) → j < place → get_or next j 0 ≡ after_test x i (get_or metadata j d) (get_or old j 0)

  abbrev OthersStay : ℕ → List ℕ → Type 0
  OthersStay place next = (j : ℕ) → place ≤ j → get_or next j 0 ≡ get_or old j 0

  pub one_led : (next : List ℕ) (place to : ℕ) → place < length next → BeforeLed place next → OthersStay place next
      → ((d : Metadata) → to ≡ after_test x i (get_or metadata place d) (get_or next place 0)) → BeforeLed (place + 1) (set next place to) × OthersStay (place + 1) (set next place to)
  one_led next place to l before others is = (
    λ j d less. elim (cases_eq j place) [
      | inl same ↦ subst (λ k. get_or (set next place to) k 0 ≡ after_test x i (get_or metadata k d) (get_or old k 0)) (sym same)
          (get_or-set_same next place to 0 l ∙ is d ∙ ap (after_test x i (get_or metadata place d)) (others place (omega arith)))
      | inr other ↦ get_or-set_other next place j to 0 other ∙ before j d (omega (arith, less, other))
    ],
    λ j later. get_or-set_other next place j to 0 (λ e. omega (arith, e, later)) ∙ others j (omega (arith, later)),
  )

-- All packets take one test more.
pub test_taken : (met : Test → Bool) (xs : List Test) (i n to : ℕ) (d : Test) → i < length xs → to ≡ (if i == n then (if met (get_or xs i d) then (get_or xs i d).if_met else (get_or xs i d).if_not) else n)
    → led_to met i n (drop i xs) ≡ led_to met 0 0 xs → led_to met (i + 1) to (drop (i + 1) xs) ≡ led_to met 0 0 xs
test_taken met xs i n to d l is so_far =
    ap (λ k. led_to met k to (drop k xs)) (add-one i) ∙ ap (λ m. led_to met (suc i) m (drop (suc i) xs)) is ∙ sym (ap (led_to met i n) (drop-cons xs i d l)) ∙ so_far

-- At first each packet's next test is the first one.
same_numbers : (x n j : ℕ) → get_or (replicate n x) j x ≡ x
same_numbers x zero j = refl
same_numbers x (suc n) zero = refl
same_numbers x (suc n) (suc j) = same_numbers x n j

pub none_taken : (xs : List Test) (metadata : List Metadata) → AreLed xs 0 metadata (replicate 8 0)
none_taken xs metadata j d l = ap (λ n. led_to (met_by (get_or metadata j d)) 0 n xs) (same_numbers 0 8 j)
