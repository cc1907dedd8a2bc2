-- Where tests lead a packet, and the labels to which their instructions lead.
use Rattle.std.proofs.Common.{◌≡◌, ◌≢◌, ℕ, zero, suc, ◌+◌, ◌-◌, ◌*◌, ◌<◌, ◌≤◌, Bool, true, false, cond, nat_lt, List, [], ◌∷◌, length, drop, get_or, map, replicate, inl, inr, refl, sym, ap, subst, ◌∙◌, arith, eq-eqb, ne_eqb, drop-cons, length-drop}
use Rattle.std.specs.Prelude.{◌==◌, slice_index}
use Rattle.std.proofs.Math.ListN.{drop_of_length-le}
use Rattle.std.proofs.lemmas.Bool.{lt-ltb, le-ltb, cases_eq, cases_lt}
use Rattle.std.proofs.lemmas.List.{drop-map, length-map, get_or-replicate}
use Rattle.std.proofs.Math.Nat.{mul-le-mul_left}
use Rattle.ip_spec.proofs.Common.{drop-drop}
use Rattle.ip_bpf.specs.declared.instruction.Instruction.{Instruction}
use Rattle.ip_dissect.specs.Dissection.{dissected}
use Rattle.ip_filter.specs.Program.{led_to}
use Rattle.ip_filter.specs.Tests.{meets}
use Rattle.ip_filter.specs.declared.filter.Test.{Test}
use Rattle.ip_filter_bpf.specs.Blocks.{Returns}
use Rattle.ip_filter_bpf.specs.Compiled.{returned, exit_label, end_label, passes_from}
use Rattle.ip_filter_bpf.specs.Verdict.{is_decided, settled, end_of}
use Rattle.ip_filter_bpf.specs.declared.undecided.Undecided.{Undecided}
use Rattle.ip_filter_bpf.specs.declared.undecided.Undecided.TheVariants.{Keep, Drop}

pub other_index : (i next to : ℕ) → i ≢ next → cond (i == next) to next ≡ next
other_index i next to other = ap (λ t. cond t to next) (ne_eqb i next other)

module _ (met : Test → Bool) where
  after : Test → ℕ
  after x = cond (met x) x.if_met x.if_not

  -- An index that is none of the tests' stays.
  left_behind : (i next : ℕ) (xs : List Test) → next < i → led_to met i next xs ≡ next
  left_behind i next [] out = refl
  left_behind i next (x ∷ xs) out =
      let other : i ≢ next = omega arith in
      ap (λ n. led_to met (suc i) n xs) (other_index i next (cond (met x) x.if_met x.if_not) other) ∙ left_behind (suc i) next xs (omega arith)

  pub past_all : (i next : ℕ) (xs : List Test) → i + length xs ≤ next → led_to met i next xs ≡ next
  past_all i next [] out = refl
  past_all i next (x ∷ xs) out =
      let other : i ≢ next = omega arith in
      ap (λ n. led_to met (suc i) n xs) (other_index i next (cond (met x) x.if_met x.if_not) other) ∙ past_all (suc i) next xs (omega arith)

  -- Tests before the next one don't matter.
  skipped : (k i next : ℕ) (xs : List Test) → i + k ≡ next → led_to met i next xs ≡ led_to met next next (drop k xs)
  skipped zero i next xs e = let same : i ≡ next = omega arith in ap (λ j. led_to met j next xs) same
  skipped (suc k) i next [] e = refl
  skipped (suc k) i next (x ∷ xs) e =
      let other : i ≢ next = omega arith in
      ap (λ n. led_to met (suc i) n xs) (other_index i next (cond (met x) x.if_met x.if_not) other) ∙ skipped k (suc i) next xs (omega arith)

  -- one test is run
  tested : (i : ℕ) (x : Test) (xs : List Test) → led_to met i i (x ∷ xs) ≡ led_to met (suc i) (cond (met x) x.if_met x.if_not) xs
  tested i x xs = ap (λ t. led_to met (suc i) (cond t (cond (met x) x.if_met x.if_not) i) xs) (eq-eqb i i refl)

-- the tests from an index on lead no packet that comes after the last one
module _ (u : Undecided) (xs : List Test) (s : List ℕ) where
  met : Test → Bool
  met x = meets x (dissected s)

  pub none_after : (i to : ℕ) → length xs ≤ i → passes_from u xs i to s ≡ (to == 64)
  none_after i to out = ap (λ (ys : List Test). led_to (λ x. meets x (dissected s)) i to (map (settled (end_of u)) ys) == 64) (drop_of_length-le xs out)

  module _ (few : length xs ≤ 64) (i : ℕ) (small : i < 64) where
    rest_len : suc i + length (map (settled (end_of u)) (drop (suc i) xs)) ≤ 64
    rest_len =
        let m : length (map (settled (end_of u)) (drop (suc i) xs)) ≡ length (drop (suc i) xs) = simp length-map in
        omega (arith, m, length-drop (suc i) xs)

    pub at_end : (to : ℕ) → 64 ≤ to → passes_from u xs (suc i) to s ≡ (to == 64)
    at_end to past = ap (λ (n : ℕ). n == 64) (past_all (λ x. meets x (dissected s)) (suc i) to (map (settled (end_of u)) (drop (suc i) xs)) (let r = rest_len in omega (arith, r)))

    pub behind : (to : ℕ) → to ≤ i → passes_from u xs (suc i) to s ≡ false
    behind to back =
        let other : to ≢ 64 = omega arith in
        ap (λ (n : ℕ). n == 64) (left_behind (λ x. meets x (dissected s)) (suc i) to (map (settled (end_of u)) (drop (suc i) xs)) (omega arith)) ∙ ne_eqb to 64 other

    pub onward : (to : ℕ) → i < to → passes_from u xs (suc i) to s ≡ passes_from u xs to to s
    onward to later =
        let gap : suc i + (to - suc i) ≡ to = omega arith in
        ap (λ (n : ℕ). n == 64) (
        skipped (λ x. meets x (dissected s)) (to - suc i) (suc i) to (map (settled (end_of u)) (drop (suc i) xs)) gap
        ∙ ap (λ ys. led_to (λ x. meets x (dissected s)) to to ys) (drop-map (settled (end_of u)) (to - suc i) (drop (suc i) xs))
        ∙ ap (λ ys. led_to (λ x. meets x (dissected s)) to to (map (settled (end_of u)) ys)) (drop-drop (to - suc i) (suc i) xs ∙ ap (λ k. drop k xs) gap))

    module _ (code : List Instruction) (labels : List ℕ)
        (reject : Returns code 1 s 0) (accept : Returns code 2 s (returned true))
        (later : (j : ℕ) → i < j → j < 64 → Returns code (get_or labels j 0) s (returned (passes_from u xs j j s))) where
      leads_to : (to label : ℕ) (t : Bool) → passes_from u xs (suc i) to s ≡ t → exit_label labels i to ≡ label → Returns code label s (returned t) → Returns code (exit_label labels i to) s (returned (passes_from u xs (suc i) to s))
      leads_to to label t is l h = subst (λ (n : ℕ). Returns code n s (returned (passes_from u xs (suc i) to s))) (sym l) (subst (λ (b : Bool). Returns code label s (returned b)) (sym is) h)

      pub exit_returns : (to : ℕ) → Returns code (exit_label labels i to) s (returned (passes_from u xs (suc i) to s))
      exit_returns to = elim (cases_eq to 64) [
        | inl same ↦ leads_to to 2 true (at_end to (omega arith) ∙ eq-eqb to 64 same) (ap (λ t. cond t 2 (cond (nat_lt i to) (cond (nat_lt to 64) (slice_index labels to) 1) 1)) (eq-eqb to 64 same)) accept
        | inr differ ↦
            let no = ne_eqb to 64 differ in
            let first : exit_label labels i to ≡ cond (nat_lt i to) (cond (nat_lt to 64) (slice_index labels to) 1) 1 = ap (λ t. cond t 2 (cond (nat_lt i to) (cond (nat_lt to 64) (slice_index labels to) 1) 1)) no in
            elim (cases_lt i to) [
              | inl on ↦
                  let second : exit_label labels i to ≡ cond (nat_lt to 64) (slice_index labels to) 1 = first ∙ ap (λ t. cond t (cond (nat_lt to 64) (slice_index labels to) 1) 1) (lt-ltb i to on) in
                  elim (cases_lt to 64) [
                    | inl within ↦ leads_to to (slice_index labels to) (passes_from u xs to to s) (onward to on) (second ∙ ap (λ t. cond t (slice_index labels to) 1) (lt-ltb to 64 within)) (later to on within)
                    | inr past ↦ leads_to to 1 false (at_end to past ∙ no) (second ∙ ap (λ t. cond t (slice_index labels to) 1) (le-ltb to 64 past)) reject
                  ]
              | inr back ↦ leads_to to 1 false (behind to back) (first ∙ ap (λ t. cond t (cond (nat_lt to 64) (slice_index labels to) 1) 1) (le-ltb i to back)) reject
            ]
      ]

      end_returns : (v : Undecided) → end_of u ≡ end_of v → Returns code (end_label v) s (returned (passes_from u xs (suc i) (end_of u) s))
      end_returns Keep e =
          let past : 64 ≤ end_of u = omega arith in
          subst (λ (b : Bool). Returns code 2 s (returned b)) (sym (at_end (end_of u) past ∙ eq-eqb (end_of u) 64 e)) accept
      end_returns Drop e =
          let past : 64 ≤ end_of u = omega arith in
          let other : end_of u ≢ 64 = omega arith in
          subst (λ (b : Bool). Returns code 1 s (returned b)) (sym (at_end (end_of u) past ∙ ne_eqb (end_of u) 64 other)) reject

      -- the settled test leads where the instructions of the test do
      by_cases : (x : Test) (decided m : Bool) → Returns code (cond decided (cond m (exit_label labels i x.if_met) (exit_label labels i x.if_not)) (end_label u)) s (returned (passes_from u xs (suc i) (cond decided (cond m x.if_met x.if_not) (end_of u)) s))
      by_cases x true true = exit_returns x.if_met
      by_cases x true false = exit_returns x.if_not
      by_cases x false m = end_returns u refl

      after_settled : (x : Test) (decided : Bool) → cond (meets (cond decided x (record x { if_met = end_of u; if_not = end_of u })) (dissected s)) (cond decided x (record x { if_met = end_of u; if_not = end_of u })).if_met (cond decided x (record x { if_met = end_of u; if_not = end_of u })).if_not ≡ cond decided (cond (meets x (dissected s)) x.if_met x.if_not) (end_of u)
      after_settled x true = refl
      after_settled x false = same_sides (meets (record x { if_met = end_of u; if_not = end_of u }) (dissected s)) where
        same_sides : (t : Bool) → cond t (end_of u) (end_of u) ≡ end_of u
        same_sides true = refl
        same_sides false = refl

      pub test_returns : (d : Test) → i < length xs → Returns code (cond (is_decided (get_or xs i d)) (cond (meets (get_or xs i d) (dissected s)) (exit_label labels i (get_or xs i d).if_met) (exit_label labels i (get_or xs i d).if_not)) (end_label u)) s (returned (passes_from u xs i i s))
      test_returns d within =
          let x = get_or xs i d in
          let value : passes_from u xs i i s ≡ passes_from u xs (suc i) (cond (is_decided x) (cond (meets x (dissected s)) x.if_met x.if_not) (end_of u)) s =
          ap (λ (n : ℕ). n == 64) (
          ap (λ ys. led_to (λ y. meets y (dissected s)) i i (map (settled (end_of u)) ys)) (drop-cons xs i d within)
          ∙ tested (λ y. meets y (dissected s)) i (settled (end_of u) x) (map (settled (end_of u)) (drop (suc i) xs))
          ∙ ap (λ (n : ℕ). led_to (λ y. meets y (dissected s)) (suc i) n (map (settled (end_of u)) (drop (suc i) xs))) (after_settled x (is_decided x))) in
          subst (λ (b : Bool). Returns code (cond (is_decided x) (cond (meets x (dissected s)) (exit_label labels i x.if_met) (exit_label labels i x.if_not)) (end_label u)) s (returned b)) (sym value) (by_cases x (is_decided x) (meets x (dissected s)))

      pub put_returns : (d : Test) (if_met if_not if_undecided : ℕ) → i < length xs → if_met ≡ exit_label labels i (get_or xs i d).if_met → if_not ≡ exit_label labels i (get_or xs i d).if_not → if_undecided ≡ end_label u → Returns code (cond (is_decided (get_or xs i d)) (cond (meets (get_or xs i d) (dissected s)) if_met if_not) if_undecided) s (returned (passes_from u xs i i s))
      put_returns d if_met if_not if_undecided within met_is not_is end_is =
          let x = get_or xs i d in
          let t : Bool = is_decided x in
          let m : Bool = meets x (dissected s) in
          let r : ℕ = returned (passes_from u xs i i s) in
          subst (λ (n : ℕ). Returns code (cond t (cond m n if_not) if_undecided) s r) (sym met_is) (
          subst (λ (n : ℕ). Returns code (cond t (cond m (exit_label labels i x.if_met) n) if_undecided) s r) (sym not_is) (
          subst (λ (n : ℕ). Returns code (cond t (cond m (exit_label labels i x.if_met) (exit_label labels i x.if_not)) n) s r) (sym end_is) (test_returns d within)))

-- what holds of the labels holds of those to which tests lead
pub exit_by : (P : ℕ → Type 0) (labels : List ℕ) (i to : ℕ) → P 1 → P 2 → ((j : ℕ) → j < 64 → P (get_or labels j 0)) → P (exit_label labels i to)
exit_by P labels i to one two each = pick (to == 64) (nat_lt i to) where
  within : P (cond (nat_lt to 64) (slice_index labels to) 1)
  within = elim (cases_lt to 64) [
    | inl less ↦ subst P (sym (ap (λ t. cond t (slice_index labels to) 1) (lt-ltb to 64 less))) (each to less)
    | inr past ↦ subst P (sym (ap (λ t. cond t (slice_index labels to) 1) (le-ltb to 64 past))) one
  ]

  pick : (a b : Bool) → P (cond a 2 (cond b (cond (nat_lt to 64) (slice_index labels to) 1) 1))
  pick true b = two
  pick false true = within
  pick false false = one

pub end_by : (P : ℕ → Type 0) (u : Undecided) → P 1 → P 2 → P (end_label u)
end_by P Keep one two = two
end_by P Drop one two = one

pub labels_start : (j : ℕ) → j < 64 → ◌≡◌ {A = ℕ} (get_or (replicate 64 1) j 0) 1
labels_start j small = get_or-replicate 64 j 1 0 small

pub drop_none : (xs : List Test) → drop 0 xs ≡ xs
drop_none [] = refl
drop_none (x ∷ xs) = refl

-- the room for one more test
pub one_more : (r n i : ℕ) → i < n → 2 * r * (n - suc i) + 2 * r ≡ 2 * r * (n - i)
one_more r n i less =
    let more : n - i ≡ suc (n - suc i) = omega arith in
    rw more (omega arith)

pub room_left : (r n i : ℕ) → i < n → 2 * r * (n - suc i) + 2 * r ≤ 2 * r * n
room_left r n i less =
    let more : suc (n - suc i) ≤ n = omega arith in
    let all : 2 * r * suc (n - suc i) ≤ 2 * r * n = mul-le-mul_left (2 * r) more in
    omega (arith, all)
