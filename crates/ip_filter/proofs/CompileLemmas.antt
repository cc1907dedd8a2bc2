-- Formulas are compiled: terms are added, and the last formulas are negated and joined.
use Rattle.std.proofs.Common.{zero, suc, unwrap_or}
use Rattle.ip_spec.proofs.Common.{◌≡◌, ℕ, ◌+◌, ◌-◌, ◌<◌, ◌≤◌, ◌%◌, List, [], ◌∷◌, ◌++◌, length, take, drop, map, refl, sym, ap, ◌∙◌, subst, arith, common_steps, eqb_tells, inl, inr, cases_eq, Bool, true, false, not, ◌==◌, ◌&&◌, ◌||◌, if◌then◌else◌, Option, None, Some, length-append, length-take-le, length-drop, length-map, take-append_seam, drop-append_seam, take_at, append_assoc, append-nil, take_all, drop_all, slice_set, slice_index_or, take-append-add, length-take, take-take, min}
use Rattle.std.proofs.lemmas.List.{drop_at, same_from_push, drop-take, take_min}
use Rattle.std.proofs.Math.Seq.{get_or-append_seam}
use Rattle.ip_filter.specs.Formula.{Formula, single, negation, both, either, truth, negated, terms_of}
use Rattle.ip_filter.specs.Tests.{frame_meets, meets}
use Rattle.ip_filter.specs.Frames.{asks_frame, first_version, holds_in, holds_of_frame, meets_by_frame, meets_in}
use Rattle.ip_filter.specs.declared.frame.Frame.{Frame}
use Rattle.ip_filter.specs.Program.{led_to, passes, tests_of, frame_holds}
use Rattle.ip_filter.specs.Compiled.{Subject, alone, framed, subject_meets, subject_holds, terms_of_all, joined_by, Decide, AreCompiled, HasCompiled, index_moved, redirected, redirected_from}
use Rattle.ip_filter.specs.declared.filter.Test.{Test}
use Rattle.ip_filter.specs.declared.filter.Filter.{Filter}
use Rattle.ip_filter.specs.declared.term.Term.{Term}
use Rattle.ip_dissect.specs.Dissection.{dissected}
use Rattle.ip_filter.specs.Truth.{holds}
use Rattle.ip_filter.specs.declared.compile.Compiler.{Compiler}
use Rattle.ip_filter.proofs.FormulaLemmas.{negated_odd, negated_even}
use Rattle.ip_filter.proofs.ProgramLemmas.{past_all}

-- tests after others
led_append : (met : Test → Bool) (i n : ℕ) (xs ys : List Test) → led_to met i n (xs ++ ys) ≡ led_to met (i + length xs) (led_to met i n xs) ys
led_append met i n [] ys = ap (λ j. led_to met j n ys) (omega arith)
led_append met i n (x ∷ xs) ys =
    let n2 : ℕ = if i == n then (if met x then x.if_met else x.if_not) else n in
    let more : suc i + length xs ≡ i + suc (length xs) = omega arith in
    led_append met (suc i) n2 xs ys ∙ ap (λ j. led_to met j (led_to met (suc i) n2 xs) ys) more

-- where a test leads doesn't matter for whether it is met
still_met : (subject : Subject) (a b : ℕ) (x : Test) → subject_meets subject (redirected a b x) ≡ subject_meets subject x
still_met (alone None) a b x = refl
still_met (alone (Some s)) a b x = refl
still_met (framed f None) a b x = refl
still_met (framed f (Some s)) a b x = refl

module _ (subject : Subject) (a b : ℕ) where
  stays : (n : ℕ) → (n ≡ 64 → ⊥) → (n ≡ 65 → ⊥) → index_moved a b n ≡ n
  stays n not_64 not_65 = grind (arith, common_steps, eqb_tells, not_64, not_65)

  moved_within : (c d : Bool) (m u n : ℕ) → index_moved a b n ≡ n → (if c then (if d then index_moved a b m else index_moved a b u) else n) ≡ index_moved a b (if c then (if d then m else u) else n)
  moved_within true true m u n e = refl
  moved_within true false m u n e = refl
  moved_within false d m u n e = sym e

  one_moved : (i n : ℕ) (x : Test) → i < a → i < b → i < 64
      → (if i == index_moved a b n then (if subject_meets subject (redirected a b x) then index_moved a b x.if_met else index_moved a b x.if_not) else index_moved a b n)
      ≡ index_moved a b (if i == n then (if subject_meets subject x then x.if_met else x.if_not) else n)
  one_moved i n x below_a below_b below = rw (still_met subject a b x) (elim (cases_eq n 64) [
    | inl is ↦ rw is (grind (arith, common_steps, eqb_tells, below_a, below))
    | inr not_64 ↦ elim (cases_eq n 65) [
      | inl is ↦ rw is (grind (arith, common_steps, eqb_tells, below_b, below))
      | inr not_65 ↦ rw (stays n not_64 not_65) (moved_within (i == n) (subject_meets subject x) x.if_met x.if_not n (stays n not_64 not_65))
    ]
  ])

  led_moved : (i n : ℕ) (xs : List Test) → i + length xs ≤ a → i + length xs ≤ b → i + length xs ≤ 64
      → led_to (subject_meets subject) i (index_moved a b n) (map (redirected a b) xs) ≡ index_moved a b (led_to (subject_meets subject) i n xs)
  led_moved i n [] below_a below_b below = refl
  led_moved i n (x ∷ xs) below_a below_b below =
      ap (λ k. led_to (subject_meets subject) (suc i) k (map (redirected a b) xs)) (one_moved i n x (omega (arith, below_a)) (omega (arith, below_b)) (omega (arith, below)))
      ∙ led_moved (suc i) (if i == n then (if subject_meets subject x then x.if_met else x.if_not) else n) xs (omega (arith, below_a)) (omega (arith, below_b)) (omega (arith, below))

  -- the tests of a formula, redirected
  decide_moved : (f : Formula) (i : ℕ) (xs : List Test) → i < 64 → i + length xs ≤ a → i + length xs ≤ b → i + length xs ≤ 64 → Decide subject f i xs
      → led_to (subject_meets subject) i i (map (redirected a b) xs) ≡ (if truth f (subject_holds subject) then a else b)
  decide_moved f i xs small below_a below_b below d =
      let kept : i ≡ index_moved a b i = grind (arith, common_steps, eqb_tells, small) in
      ap (λ n. led_to (subject_meets subject) i n (map (redirected a b) xs)) kept ∙ led_moved i i xs below_a below_b below ∙ ap (index_moved a b) d ∙ moved_end (truth f (subject_holds subject)) where
        moved_end : (t : Bool) → index_moved a b (if t then 64 else 65) ≡ (if t then a else b)
        moved_end true = refl
        moved_end false = refl

module _ (met : Test → Bool) (j : ℕ) (zs : List Test) (u : Bool) (d : led_to met j j zs ≡ (if u then 64 else 65)) (fits : j + length zs ≤ 64) where
  both_end : (t : Bool) → led_to met j (if t then j else 65) zs ≡ (if t && u then 64 else 65)
  both_end true = d
  both_end false = past_all met j 65 zs (omega (arith, fits))

  either_end : (t : Bool) → led_to met j (if t then 64 else j) zs ≡ (if t || u then 64 else 65)
  either_end true = past_all met j 64 zs fits
  either_end false = d

negated_end : (t : Bool) → ◌≡◌ {A = ℕ} (if t then 65 else 64) (if not t then 64 else 65)
negated_end true = refl
negated_end false = refl

module _ (subject : Subject) where
  abbrev met : Test → Bool
  met = subject_meets subject

  decide_negation : (f : Formula) (i : ℕ) (xs : List Test) → i < 64 → i + length xs ≤ 64 → Decide subject f i xs → Decide subject (negation f) i (map (redirected 65 64) xs)
  decide_negation f i xs small fits d = decide_moved subject 65 64 f i xs small (omega (arith, fits)) fits fits d ∙ negated_end (truth f (subject_holds subject))

  -- two formulas, of which the tests of the first lead on to those of the second
  module _ (f g : Formula) (i j : ℕ) (ys zs : List Test) (df : Decide subject f i ys) (dg : Decide subject g j zs) (seam : j ≡ i + length ys) (fits : j + length zs ≤ 64) (small : i < 64) where
    led_joined : (a b : ℕ) → led_to met i i (map (redirected a b) ys ++ zs) ≡ led_to met j (led_to met i i (map (redirected a b) ys)) zs
    led_joined a b =
        let at : i + length (map (redirected a b) ys) ≡ j = ap (λ n. i + n) (length-map ys (redirected a b)) ∙ sym seam in
        led_append met i i (map (redirected a b) ys) zs ∙ ap (λ k. led_to met k (led_to met i i (map (redirected a b) ys)) zs) at

    decide_both : Decide subject (both f g) i (map (redirected j 65) ys ++ zs)
    decide_both = led_joined j 65
        ∙ ap (λ n. led_to met j n zs) (decide_moved subject j 65 f i ys small (omega (arith, seam)) (omega (arith, seam, fits)) (omega (arith, seam, fits)) df)
        ∙ both_end met j zs (truth g (subject_holds subject)) dg fits (truth f (subject_holds subject))

    decide_either : Decide subject (either f g) i (map (redirected 64 j) ys ++ zs)
    decide_either = led_joined 64 j
        ∙ ap (λ n. led_to met j n zs) (decide_moved subject 64 j f i ys small (omega (arith, seam, fits)) (omega (arith, seam)) (omega (arith, seam, fits)) df)
        ∙ either_end met j zs (truth g (subject_holds subject)) dg fits (truth f (subject_holds subject))

-- ---- what has been compiled

pub some_terms : (f : Formula) → 1 ≤ terms_of f
some_terms (single t) = omega arith
some_terms (negation f) = some_terms f
some_terms (both f g) = omega (arith, some_terms f)
some_terms (either f g) = omega (arith, some_terms f)

negated-terms : (k : ℕ) (f : Formula) → terms_of (negated k f) ≡ terms_of f
negated-terms zero f = refl
negated-terms (suc k) f = negated-terms k f

pub few_formulas : (fs : List Formula) → length fs ≤ terms_of_all fs
few_formulas [] = omega arith
few_formulas (f ∷ fs) = omega (arith, some_terms f, few_formulas fs)

module _ (subject : Subject) where
  pub compiled_tests : (fs : List Formula) (starts : List ℕ) (xs : List Test) → AreCompiled subject fs starts xs → length xs ≤ terms_of_all fs
  compiled_tests [] starts xs are = omega (arith, ap length are.1)
  compiled_tests (f ∷ fs) starts xs (rest, i, e, some, size, d, are) = omega (arith, size, length-take-le i xs (omega (arith, some)), compiled_tests fs rest (take i xs) are)

  pub compiled_starts : (fs : List Formula) (starts : List ℕ) (xs : List Test) → AreCompiled subject fs starts xs → length starts ≡ length fs
  compiled_starts [] starts xs are = ap length are.0
  compiled_starts (f ∷ fs) starts xs (rest, i, e, some, size, d, are) = omega (arith, ap length e, length-append rest (i ∷ []), compiled_starts fs rest (take i xs) are)

  -- one more test
  pub test_added : (t : Term) (x : Test) (fs : List Formula) (starts more : List ℕ) (xs ys : List Test) → subject_meets subject x ≡ subject_holds subject t → x.if_met ≡ 64 → x.if_not ≡ 65
      → ys ≡ xs ++ x ∷ [] → more ≡ starts ++ length xs ∷ [] → AreCompiled subject fs starts xs → AreCompiled subject (single t ∷ fs) more ys
  test_added t x fs starts more xs ys same met not_met tests begin are =
      let i : ℕ = length xs in
      let last : drop i ys ≡ x ∷ [] = ap (drop i) tests ∙ drop-append_seam xs (x ∷ []) in
      let front : take i ys ≡ xs = ap (take i) tests ∙ take-append_seam xs (x ∷ []) in
      let led : Decide subject (single t) i (x ∷ []) = grind (arith, common_steps, eqb_tells, same, met, not_met) in
      let len : length ys ≡ i + 1 = omega (arith, ap length tests, length-append xs (x ∷ [])) in
      (starts, i, begin, omega (arith, len), omega (arith, len), subst (Decide subject (single t) i) (sym last) led, subst (AreCompiled subject fs starts) (sym front) are)

  -- a formula with the same truth
  pub same_truth : (f g : Formula) (fs : List Formula) (starts : List ℕ) (xs : List Test) → terms_of g ≡ terms_of f → truth g (subject_holds subject) ≡ truth f (subject_holds subject)
      → AreCompiled subject (f ∷ fs) starts xs → AreCompiled subject (g ∷ fs) starts xs
  same_truth f g fs starts xs terms same (rest, i, e, some, size, d, are) = (rest, i, e, some, omega (arith, size, terms), d ∙ ap (λ t. if t then 64 else 65) (sym same), are)

  pub negation_compiled : (f : Formula) (fs : List Formula) (starts : List ℕ) (xs ys : List Test) → terms_of_all (f ∷ fs) ≤ 64
      → ((rest : List ℕ) (i : ℕ) → starts ≡ rest ++ i ∷ [] → i ≤ length xs → ys ≡ redirected_from i 65 64 xs) → AreCompiled subject (f ∷ fs) starts xs → AreCompiled subject (negation f ∷ fs) starts ys
  negation_compiled f fs starts xs ys few to (rest, i, e, some, size, d, are) =
      let all : length xs ≤ 64 = omega (arith, few, compiled_tests (f ∷ fs) starts xs (rest, i, e, some, size, d, are)) in
      let is : ys ≡ redirected_from i 65 64 xs = to rest i e (omega (arith, some)) in
      let at : length (take i xs) ≡ i = length-take-le i xs (omega (arith, some)) in
      let front : take i ys ≡ take i xs = ap (take i) is ∙ take_at (take i xs) (map (redirected 65 64) (drop i xs)) i at in
      let back : drop i ys ≡ map (redirected 65 64) (drop i xs) = ap (drop i) is ∙ drop_at (take i xs) (map (redirected 65 64) (drop i xs)) i at in
      let len : length ys ≡ length xs = omega (arith, some, at, ap length is, length-append (take i xs) (map (redirected 65 64) (drop i xs)), length-map (drop i xs) (redirected 65 64), length-drop i xs) in (
        rest,
        i,
        e,
        omega (arith, some, len),
        omega (arith, size, len),
        subst (Decide subject (negation f) i) (sym back) (decide_negation subject f i (drop i xs) (omega (arith, some, all)) (omega (arith, some, all, length-drop i xs)) d),
        subst (AreCompiled subject fs rest) (sym front) are,
      )

  -- the last start is popped
  pub top_popped : (g : Formula) (fs : List Formula) (starts mid : List ℕ) (j : ℕ) (xs : List Test) → starts ≡ mid ++ j ∷ [] → AreCompiled subject (g ∷ fs) starts xs
      → (j < length xs) × (length xs ≤ j + terms_of g) × Decide subject g j (drop j xs) × AreCompiled subject fs mid (take j xs)
  top_popped g fs starts mid j xs popped (rest, i, e, some, size, d, are) =
      let s : (rest ≡ mid) × (i ≡ j) = same_from_push rest mid i j (sym e ∙ popped) in
      let at : (j < length xs) × (length xs ≤ j + terms_of g) × Decide subject g j (drop j xs) × AreCompiled subject fs rest (take j xs) =
      subst (λ k. (k < length xs) × (length xs ≤ k + terms_of g) × Decide subject g k (drop k xs) × AreCompiled subject fs rest (take k xs)) s.1 (some, size, d, are) in
      (at.0, at.1, at.2, subst (λ r. AreCompiled subject fs r (take j xs)) s.0 at.3)

  -- the last two formulas are joined
  module _ (f g : Formula) (fs : List Formula) (starts mid : List ℕ) (j : ℕ) (xs ys : List Test) (a b : ℕ) (few : terms_of_all (g ∷ f ∷ fs) ≤ 64) (popped : starts ≡ mid ++ j ∷ [])
      (to : (rest : List ℕ) (i : ℕ) → mid ≡ rest ++ i ∷ [] → i ≤ j → j ≤ length xs → ys ≡ redirected_from i a b (take j xs) ++ drop j xs) where
    two_compiled : (h : Formula) → terms_of h ≡ terms_of f + terms_of g
        → ((i : ℕ) (front : List Test) → Decide subject f i front → Decide subject g j (drop j xs) → j ≡ i + length front → j + length (drop j xs) ≤ 64 → i < 64 → Decide subject h i (map (redirected a b) front ++ drop j xs))
        → AreCompiled subject (g ∷ f ∷ fs) starts xs → AreCompiled subject (h ∷ fs) mid ys
    two_compiled h terms decide w = second (top_popped g (f ∷ fs) starts mid j xs popped w) where
      all : length xs ≤ 64
      all = omega (arith, few, compiled_tests (g ∷ f ∷ fs) starts xs w)

      second : (j < length xs) × (length xs ≤ j + terms_of g) × Decide subject g j (drop j xs) × AreCompiled subject (f ∷ fs) mid (take j xs) → AreCompiled subject (h ∷ fs) mid ys
      second (some_g, size_g, dg, (rest, i, e, some_f, size_f, df, are)) =
          let head : length (take j xs) ≡ j = length-take-le j xs (omega (arith, some_g)) in
          let fs_tests : List Test = take i (take j xs) in
          let f_tests : List Test = drop i (take j xs) in
          let at : length fs_tests ≡ i = length-take-le i (take j xs) (omega (arith, some_f)) in
          let is : ys ≡ fs_tests ++ (map (redirected a b) f_tests ++ drop j xs) = to rest i e (omega (arith, some_f, head)) (omega (arith, some_g)) ∙ append_assoc fs_tests (map (redirected a b) f_tests) (drop j xs) in
          let front : take i ys ≡ fs_tests = ap (take i) is ∙ take_at fs_tests (map (redirected a b) f_tests ++ drop j xs) i at in
          let back : drop i ys ≡ map (redirected a b) f_tests ++ drop j xs = ap (drop i) is ∙ drop_at fs_tests (map (redirected a b) f_tests ++ drop j xs) i at in
          let f_len : j ≡ i + length f_tests = omega (arith, head, some_f, length-drop i (take j xs)) in
          let len : length ys ≡ length xs = omega (arith, at, f_len, some_g, ap length is, length-append fs_tests (map (redirected a b) f_tests ++ drop j xs), length-append (map (redirected a b) f_tests) (drop j xs), length-map f_tests (redirected a b), length-drop j xs) in (
            rest,
            i,
            e,
            omega (arith, some_f, head, some_g, len),
            omega (arith, terms, size_g, size_f, head, len),
            subst (Decide subject h i) (sym back) (decide i f_tests df dg f_len (omega (arith, all, some_g, length-drop j xs)) (omega (arith, all, some_g, some_f, head))),
            subst (AreCompiled subject fs rest) (sym front) are,
          )

-- ---- tests that are redirected one by one

-- those from index k on and before index i
abbrev pub redirected_up_to : ℕ → ℕ → ℕ → ℕ → List Test → List Test
redirected_up_to k a b i xs = take k xs ++ map (redirected a b) (drop k (take i xs)) ++ drop i xs

module _ (a b : ℕ) where
  pub none_redirected : (k : ℕ) (xs : List Test) → redirected_up_to k a b k xs ≡ xs
  none_redirected zero xs = refl
  none_redirected (suc k) [] = refl
  none_redirected (suc k) (x ∷ xs) = ap (λ ys. x ∷ ys) (none_redirected k xs)

  pub one_redirected : (k i : ℕ) (xs : List Test) (d : Test) → k ≤ i → i < length xs
      → slice_set (redirected_up_to k a b i xs) i (redirected a b (slice_index_or (redirected_up_to k a b i xs) i d)) ≡ redirected_up_to k a b (suc i) xs
  one_redirected k i [] d later within = absurd (omega (arith, within))
  one_redirected zero zero (x ∷ xs) d later within = refl
  one_redirected zero (suc i) (x ∷ xs) d later within = ap (λ ys. redirected a b x ∷ ys) (one_redirected zero i xs d (omega arith) (omega (arith, within)))
  one_redirected (suc k) zero (x ∷ xs) d later within = absurd (omega (arith, later))
  one_redirected (suc k) (suc i) (x ∷ xs) d later within = ap (λ ys. x ∷ ys) (one_redirected k i xs d (omega (arith, later)) (omega (arith, within)))

  pub all_redirected : (k i : ℕ) (xs : List Test) → length xs ≤ i → redirected_up_to k a b i xs ≡ redirected_from k a b xs
  all_redirected k i xs out = rw (take_all i xs out, drop_all i xs out) (append-nil (take k xs ++ map (redirected a b) (drop k xs)))

-- ---- a front of the tests that is redirected

-- the last of some items
pub last_item : (rest : List ℕ) (i k d : ℕ) (items : List ℕ) → items ≡ rest ++ i ∷ [] → k ≡ length items - 1 → slice_index_or items k d ≡ i
last_item rest i k d items is at =
    let len : k ≡ length rest = omega (arith, at, ap length is, length-append rest (i ∷ [])) in
    rw (is, len) (get_or-append_seam rest i [] d)

-- A front of all tests is replaced by as many: so is that of the first n.
pub front_replaced : (n e : ℕ) (all front : List Test) → e ≤ length (take n all) → length front ≡ e → take n (front ++ drop e all) ≡ front ++ drop e (take n all)
front_replaced n e all front within len =
    let less : e ≤ n = omega (arith, within, length-take n all) in
    let sum : e + (n - e) ≡ n = omega (arith, less) in
    let from_front : length front + (n - e) ≡ n = omega (arith, len, less) in
    ap (λ k. take k (front ++ drop e all)) (sym from_front) ∙ take-append-add front (drop e all) (n - e)
    ∙ ap (λ ys. front ++ ys) (sym (drop-take e (n - e) all) ∙ ap (λ k. drop e (take k all)) sum)

pub front_redirected : (n e m i a b : ℕ) (all new : List Test) → length all ≡ 64 → m ≡ min e 64 → e ≤ length (take n all) → i ≤ e → (i ≤ length (take m all) → new ≡ redirected_from i a b (take m all))
    → take n (new ++ drop m all) ≡ redirected_from i a b (take e (take n all)) ++ drop e (take n all)
front_redirected n e m i a b all new size least within before to =
    let fits : e ≤ 64 = omega (arith, within, size, length-take n all) in
    let same : m ≡ e = omega (arith, least, fits) in
    let len : length (take e all) ≡ e = length-take-le e all (omega (arith, fits, size)) in
    let is : new ≡ redirected_from i a b (take e all) = subst (λ k. i ≤ length (take k all) → new ≡ redirected_from i a b (take k all)) same to (omega (arith, before, len)) in
    let len_new : length new ≡ e = omega (arith, len, before, ap length is, length-append (take i (take e all)) (map (redirected a b) (drop i (take e all))), length-map (drop i (take e all)) (redirected a b), length-drop i (take e all), length-take-le i (take e all) (omega (arith, before, len))) in
    let front : take e (take n all) ≡ take e all = take-take e n all (omega (arith, within, length-take n all)) in
    ap (λ k. take n (new ++ drop k all)) same ∙ front_replaced n e all new within len_new ∙ ap (λ ys. ys ++ drop e (take n all)) (is ∙ ap (redirected_from i a b) (sym front))

-- how many tests are used
pub used_len : (n m : ℕ) (all : List Test) → length all ≡ 64 → m ≡ min n 64 → length (take n all) ≡ m
used_len n m all size least = omega (arith, size, least, length-take n all)

-- all tests are a front
pub whole_redirected : (i a b e : ℕ) (xs : List Test) → length xs ≡ e → redirected_from i a b (take e xs) ++ drop e xs ≡ redirected_from i a b xs
whole_redirected i a b e xs is = rw (take_all e xs (omega (arith, is)), drop_all e xs (omega (arith, is))) (append-nil (redirected_from i a b xs))

-- ---- the last formulas

module _ (subject : Subject) (k : ℕ) where
  pub negated_even_times : (f : Formula) (fs : List Formula) (starts : List ℕ) (xs : List Test) → (k % 2 ≡ 1 → ⊥) → AreCompiled subject (f ∷ fs) starts xs → AreCompiled subject (negated k f ∷ fs) starts xs
  negated_even_times f fs starts xs even are = same_truth subject f (negated k f) fs starts xs (negated-terms k f) (sym (negated_even k f (subject_holds subject) (truth f (subject_holds subject)) refl (omega (arith, even)))) are

  pub negated_odd_times : (f : Formula) (fs : List Formula) (starts more : List ℕ) (xs ys : List Test) → k % 2 ≡ 1 → terms_of_all (f ∷ fs) ≤ 64 → more ≡ starts
      → ((rest : List ℕ) (i : ℕ) → starts ≡ rest ++ i ∷ [] → i ≤ length xs → ys ≡ redirected_from i 65 64 xs) → AreCompiled subject (f ∷ fs) starts xs → AreCompiled subject (negated k f ∷ fs) more ys
  negated_odd_times f fs starts more xs ys odd few same to are =
      let once = negation_compiled subject f fs starts xs ys few to are in
      subst (λ st. AreCompiled subject (negated k f ∷ fs) st ys) (sym same)
      (same_truth subject (negation f) (negated k f) fs starts ys (negated-terms k f) (sym (negated_odd k f (subject_holds subject) (truth f (subject_holds subject)) refl odd)) once)

-- the tests of the first of two formulas lead on to those of the second
pub in_order : (subject : Subject) (is_and : Bool) (f g : Formula) (fs : List Formula) (mid : List ℕ) (j : ℕ) (xs ys : List Test) → terms_of g + (terms_of f + terms_of_all fs) ≤ 64
    → ((rest : List ℕ) (i : ℕ) → mid ≡ rest ++ i ∷ [] → i ≤ j → j ≤ length xs → ys ≡ redirected_from i (if is_and then j else 64) (if is_and then 65 else j) (take j xs) ++ drop j xs)
    → AreCompiled subject (g ∷ f ∷ fs) (mid ++ j ∷ []) xs → AreCompiled subject (joined_by is_and f g ∷ fs) mid ys
in_order subject true f g fs mid j xs ys few to are =
    two_compiled subject f g fs (mid ++ j ∷ []) mid j xs ys j 65 few refl to (both f g) refl (λ i front df dg seam fits small. decide_both subject f g i j front (drop j xs) df dg seam fits small) are
in_order subject false f g fs mid j xs ys few to are =
    two_compiled subject f g fs (mid ++ j ∷ []) mid j xs ys 64 j few refl to (either f g) refl (λ i front df dg seam fits small. decide_either subject f g i j front (drop j xs) df dg seam fits small) are

-- a formula has a start
pub some_start : (f : Formula) (fs : List Formula) (c : Compiler) → length c.starts.items ≡ 0 → HasCompiled (f ∷ fs) c → ⊥
some_start f fs c none are = omega (arith, none, compiled_starts (alone None) (f ∷ fs) c.starts.items (tests_of c.filter) (are (alone None)))

-- a test that packets meet of which a term holds, and the same for frames
module _ (x : Test) (t : Term) (same : (s : List ℕ) → meets x (dissected s) ≡ holds t (dissected s))
    (of_frames : (f : Frame) (v : ℕ) → holds_of_frame f v t ≡ (if asks_frame x then Some (meets_by_frame f v x) else None)) where
  same_for_packets : (packet : Option (List ℕ)) → frame_meets packet x ≡ frame_holds packet t
  same_for_packets None = refl
  same_for_packets (Some s) = same s

  same_in_frame : (packet : Option (List ℕ)) (b : Bool) (held : Bool) → (if b then held else frame_meets packet x) ≡ unwrap_or (if b then Some held else None) (frame_holds packet t)
  same_in_frame packet true held = refl
  same_in_frame packet false held = same_for_packets packet

  same_for_subjects : (subject : Subject) → subject_meets subject x ≡ subject_holds subject t
  same_for_subjects (alone packet) = same_for_packets packet
  same_for_subjects (framed f packet) =
      same_in_frame packet (asks_frame x) (meets_by_frame f (first_version packet) x) ∙ ap (λ o. unwrap_or o (frame_holds packet t)) (sym (of_frames f (first_version packet)))

-- a term's test is added
pub term_compiled : (t : Term) (x : Test) (old new : Compiler) → ((s : List ℕ) → meets x (dissected s) ≡ holds t (dissected s))
    → ((f : Frame) (v : ℕ) → holds_of_frame f v t ≡ (if asks_frame x then Some (meets_by_frame f v x) else None)) → x.if_met ≡ 64 → x.if_not ≡ 65
    → (length (tests_of old.filter) < 64 → length old.starts.items < 64 → tests_of new.filter ≡ tests_of old.filter ++ x ∷ [])
    → (length (tests_of old.filter) < 64 → length old.starts.items < 64 → new.starts.items ≡ old.starts.items ++ length (tests_of old.filter) ∷ [])
    → (fs : List Formula) → terms_of_all (single t ∷ fs) ≤ 64 → HasCompiled fs old → HasCompiled (single t ∷ fs) new
term_compiled t x old new same of_frames met not_met tests begin fs few are subject =
    let xs : List Test = tests_of old.filter in
    let room : length xs < 64 = omega (arith, few, compiled_tests subject fs old.starts.items xs (are subject)) in
    let place : length old.starts.items < 64 = omega (arith, few, compiled_starts subject fs old.starts.items xs (are subject), few_formulas fs) in
    test_added subject t x fs old.starts.items new.starts.items xs (tests_of new.filter) (same_for_subjects x t same of_frames subject) met not_met (tests room place) (begin room place) (are subject)

compiled_alone : (subject : Subject) (f : Formula) (starts : List ℕ) (xs : List Test) → AreCompiled subject (f ∷ []) starts xs → passes xs (subject_meets subject) ≡ truth f (subject_holds subject)
compiled_alone subject f starts xs (rest, i, e, some, size, d, (no_rest, no_tests)) =
    let first : i ≡ 0 = omega (arith, ap length no_tests, length-take-le i xs (omega (arith, some))) in
    let led : Decide subject f 0 xs = subst (λ k. Decide subject f k (drop k xs)) first d in
    ap (λ n. n == 64) led ∙ passed (truth f (subject_holds subject)) where
      passed : (t : Bool) → ((if t then 64 else 65) == 64) ≡ t
      passed true = refl
      passed false = refl

-- what a filter with the tests of one formula lets pass, and how many tests it has
module _ (f : Formula) (c : Compiler) (x : Filter) (same : tests_of x ≡ tests_of c.filter) (are : HasCompiled (f ∷ []) c) where
  passes_of : (subject : Subject) → passes (tests_of x) (subject_meets subject) ≡ truth f (subject_holds subject)
  passes_of subject = ap (λ xs. passes xs (subject_meets subject)) same ∙ compiled_alone subject f c.starts.items (tests_of c.filter) (are subject)

  pub passes_formula : (packet : Option (List ℕ)) → passes (tests_of x) (frame_meets packet) ≡ truth f (frame_holds packet)
  passes_formula packet = passes_of (alone packet)

  pub passes_in_frame : (frame : Frame) (packet : Option (List ℕ)) → passes (tests_of x) (meets_in frame packet) ≡ truth f (holds_in frame packet)
  passes_in_frame frame packet = passes_of (framed frame packet)

  pub few_tests : x.count ≡ length (tests_of c.filter) → x.count ≤ terms_of f
  few_tests count = omega (arith, count, compiled_tests (alone None) (f ∷ []) c.starts.items (tests_of c.filter) (are (alone None)))

-- The first k tests are those that are used, if k is their number.
pub used_again : (n k : ℕ) (xs ys : List Test) → ys ≡ take n xs → k ≡ length ys → take k xs ≡ take n xs
used_again n k xs ys is len = ap (λ j. take j xs) (len ∙ ap length is ∙ length-take n xs) ∙ take_min n xs
