-- Filters of which a program doesn't decide each test.
use Rattle.std.proofs.Common.{◌≡◌, ℕ, suc, ◌+◌, ◌≤◌, Bool, true, false, cond, ◌&&◌, List, [], ◌∷◌, length, map, refl, sym, ap, ◌∙◌, arith, eq-eqb}
use Rattle.std.specs.Prelude.{◌==◌}
use Rattle.std.specs.List.{list_all}
use Rattle.std.proofs.lemmas.Bool.{eqb-true}
use Rattle.std.proofs.lemmas.List.{length-map}
use Rattle.ip_dissect.specs.Dissection.{dissected}
use Rattle.ip_filter.specs.Program.{led_to, passes, tests_of}
use Rattle.ip_filter.specs.Tests.{meets}
use Rattle.ip_filter.specs.declared.filter.Test.{Test}
use Rattle.ip_filter.specs.declared.filter.Filter.{Filter}
use Rattle.ip_filter_bpf.specs.Verdict.{is_decided, settled, end_of, verdict}
use Rattle.ip_filter_bpf.specs.declared.undecided.Undecided.{Undecided}
use Rattle.ip_filter_bpf.specs.declared.undecided.Undecided.TheVariants.{Keep, Drop}
use Rattle.ip_filter_bpf.proofs.LeadLemmas.{past_all}

same_ends : (t : Bool) (e : ℕ) → cond t e e ≡ e
same_ends true e = refl
same_ends false e = refl

module _ (met : Test → Bool) where
  -- where the settled test leads
  abbrev after : Test → ℕ
  after x = cond (met x) x.if_met x.if_not

  all_there : (i e : ℕ) (xs : List Test) → i + length xs ≤ 64 → 64 ≤ e → led_to met i e (map (settled e) xs) ≡ e
  all_there i e xs few past =
      let same : length (map (settled e) xs) ≡ length xs = simp length-map in
      past_all met i e (map (settled e) xs) (omega (arith, same))

  kept_by : (i next : ℕ) (xs : List Test) → i + length xs ≤ 64 → led_to met i next xs ≡ 64 → led_to met i next (map (settled 64) xs) ≡ 64
  kept_by i next [] few h = h
  kept_by i next (x ∷ xs) few h = go (i == next) (is_decided x) (λ n. kept_by (suc i) n xs (omega arith)) h where
    go : (here decided : Bool) → ((n : ℕ) → led_to met (suc i) n xs ≡ 64 → led_to met (suc i) n (map (settled 64) xs) ≡ 64) → led_to met (suc i) (cond here (after x) next) xs ≡ 64 → led_to met (suc i) (cond here (after (cond decided x (record x { if_met = 64; if_not = 64 }))) next) (map (settled 64) xs) ≡ 64
    go false decided on h = on next h
    go true true on h = on (after x) h
    go true false on h = ap (λ n. led_to met (suc i) n (map (settled 64) xs)) (same_ends (met (record x { if_met = 64; if_not = 64 })) 64) ∙ all_there (suc i) 64 xs (omega arith) (omega arith)

  sixty_five : (n : ℕ) → n ≡ 65 → n ≡ 64 → ⊥
  sixty_five n a b = omega arith

  dropped_by : (i next : ℕ) (xs : List Test) → i + length xs ≤ 64 → led_to met i next (map (settled 65) xs) ≡ 64 → led_to met i next xs ≡ 64
  dropped_by i next [] few h = h
  dropped_by i next (x ∷ xs) few h = go (i == next) (is_decided x) (λ n. dropped_by (suc i) n xs (omega arith)) h where
    go : (here decided : Bool) → ((n : ℕ) → led_to met (suc i) n (map (settled 65) xs) ≡ 64 → led_to met (suc i) n xs ≡ 64) → led_to met (suc i) (cond here (after (cond decided x (record x { if_met = 65; if_not = 65 }))) next) (map (settled 65) xs) ≡ 64 → led_to met (suc i) (cond here (after x) next) xs ≡ 64
    go false decided on h = on next h
    go true true on h = on (after x) h
    go true false on h = absurd (sixty_five (led_to met (suc i) 65 (map (settled 65) xs)) (all_there (suc i) 65 xs (omega arith) (omega arith)) (sym (ap (λ n. led_to met (suc i) n (map (settled 65) xs)) (same_ends (met (record x { if_met = 65; if_not = 65 })) 65)) ∙ h))

one_settled : (e : ℕ) (x : Test) (xs ys : List Test) (t rest : Bool) → (t && rest) ≡ true → (rest ≡ true → ys ≡ xs) → cond t x (record x { if_met = e; if_not = e }) ∷ ys ≡ x ∷ xs
one_settled e x xs ys true rest h on = ap (λ zs. x ∷ zs) (on h)
one_settled e x xs ys false rest h on = absurd (let y : ⊥ = cc in y)

all_settled : (e : ℕ) (xs : List Test) → list_all is_decided xs ≡ true → map (settled e) xs ≡ xs
all_settled e [] h = refl
all_settled e (x ∷ xs) h = one_settled e x xs (map (settled e) xs) (is_decided x) (list_all is_decided xs) h (all_settled e xs)

pub kept : (f : Filter) (s : List ℕ) → length (tests_of f) ≤ 64 → passes (tests_of f) (λ x. meets x (dissected s)) ≡ true → verdict Keep f s ≡ true
kept f s few h =
    let n = led_to (λ x. meets x (dissected s)) 0 0 (tests_of f) in
    eq-eqb _ 64 (kept_by (λ x. meets x (dissected s)) 0 0 (tests_of f) (omega (arith, few)) (eqb-true n 64 h))

pub dropped : (f : Filter) (s : List ℕ) → length (tests_of f) ≤ 64 → verdict Drop f s ≡ true → passes (tests_of f) (λ x. meets x (dissected s)) ≡ true
dropped f s few h =
    eq-eqb _ 64 (dropped_by (λ x. meets x (dissected s)) 0 0 (tests_of f) (omega (arith, few)) (eqb-true _ 64 h))

pub exact : (u : Undecided) (f : Filter) (s : List ℕ) → list_all is_decided (tests_of f) ≡ true → verdict u f s ≡ passes (tests_of f) (λ x. meets x (dissected s))
exact u f s all = ap (λ xs. passes xs (λ x. meets x (dissected s))) (all_settled (end_of u) (tests_of f) all)
