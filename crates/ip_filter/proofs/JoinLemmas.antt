-- Tests of flags are joined, or come first.
use Rattle.std.proofs.Common.{zero, suc, add-one, slice_set, slice_index_or, bit_or}
use Rattle.ip_spec.proofs.Common.{◌≡◌, ℕ, ◌+◌, ◌-◌, ◌<◌, ◌≤◌, List, [], ◌∷◌, ◌++◌, length, take, drop, map, refl, sym, ap, ◌∙◌, subst, arith, common_steps, eqb_tells, inl, inr, cases_lt, Bool, true, false, ◌==◌, ◌&&◌, ◌||◌, if◌then◌else◌, None, Some, length-append, length-take-le, length-drop, length-map, take-append_seam, take-append-add, take_all, take-take, take_at}
use Rattle.std.proofs.lemmas.List.{drop_at, drop-take}
use borrow.Rule.Slice.PartMut.{mid_of, put_mid, post_of}
use Rattle.ip_dissect.specs.Dissection.{dissected}
use Rattle.ip_filter.specs.Formula.{Formula, truth, terms_of}
use Rattle.ip_filter.specs.Flags.{any_flag}
use Rattle.ip_filter.specs.Tests.{meets}
use Rattle.ip_filter.specs.Frames.{meets_in}
use Rattle.ip_filter.specs.Program.{led_to}
use Rattle.ip_filter.specs.Compiled.{Subject, alone, framed, subject_meets, subject_holds, terms_of_all, joined_by, decided, led_by, Decide, AreCompiled, index_moved, redirected, index_shifted, shifted, put_first}
use Rattle.ip_filter.specs.declared.filter.Test.{Test}
use Rattle.std.proofs.Math.Seq.{get_or-append_seam}
use Rattle.ip_filter.proofs.ProgramLemmas.{past_all}
use Rattle.ip_filter.proofs.CompileLemmas.{compiled_tests, top_popped}
use Rattle.ip_filter.proofs.MaskLemmas.{either_flag}

-- ---- two masks in one

-- where a test leads that has the flags of two
merged_mask : (a b m n : ℕ) (x y : Bool) → a ≡ m → (b ≡ m → ⊥) → (if x || y then m else n) ≡ (if (if y then m else b) == m then m else (if x then a else n))
merged_mask a b m n true true is other = grind (arith, common_steps, eqb_tells)
merged_mask a b m n true false is other = grind (arith, common_steps, eqb_tells, is, other)
merged_mask a b m n false true is other = grind (arith, common_steps, eqb_tells)
merged_mask a b m n false false is other = grind (arith, common_steps, eqb_tells, other)

pub merged_leads : (x y t : Test) (m : ℕ) → x.kind ≡ 1 → y.kind ≡ 1 → x.if_met ≡ m → y.if_met ≡ m → (y.if_not ≡ m → ⊥) → t ≡ record x { number = bit_or x.number y.number } → (subject : Subject)
    → led_by subject t ≡ (if led_by subject y == m then m else led_by subject x)
merged_leads x y t m kind_x kind_y met_x met_y not_y is (alone None) = rw is (grind (arith, common_steps, eqb_tells, not_y))
merged_leads x y t m kind_x kind_y met_x met_y not_y is (alone (Some s)) =
    rw (is, kind_x, kind_y, either_flag (dissected s) 64 x.number y.number, met_x, met_y) (merged_mask m y.if_not m x.if_not (any_flag 64 x.number (dissected s)) (any_flag 64 y.number (dissected s)) refl not_y)
merged_leads x y t m kind_x kind_y met_x met_y not_y is (framed f None) = rw (is, kind_x, kind_y) (grind (arith, common_steps, eqb_tells, not_y))
merged_leads x y t m kind_x kind_y met_x met_y not_y is (framed f (Some s)) =
    rw (is, kind_x, kind_y, either_flag (dissected s) 64 x.number y.number, met_x, met_y) (merged_mask m y.if_not m x.if_not (any_flag 64 x.number (dissected s)) (any_flag 64 y.number (dissected s)) refl not_y)

-- ---- where the first of some tests leads

module _ (subject : Subject) where
  abbrev met : Test → Bool
  met = subject_meets subject

  from_head : (i : ℕ) (x : Test) (xs : List Test) → led_to met i i (x ∷ xs) ≡ led_to met (suc i) (led_by subject x) xs
  from_head i x xs = let this : (i == i) ≡ true = grind (arith, common_steps, eqb_tells) in ap (λ b. led_to met (suc i) (if b then led_by subject x else i) xs) this

  pub alone_leads : (i : ℕ) (z : Test) → led_to met i i (z ∷ []) ≡ led_by subject z
  alone_leads i z = from_head i z []

  -- one test for two
  one_leads : (is_and u v : Bool) (i x t z : ℕ) (xs : List Test) → suc i + length xs ≤ 64 → led_to met (suc i) x xs ≡ (if v then 64 else 65) → z ≡ (if u then 64 else 65)
      → t ≡ (if z == decided is_and then decided is_and else x) → led_to met (suc i) t xs ≡ (if (if is_and then v && u else v || u) then 64 else 65)
  one_leads true true true i x t z xs fits d is to = ap (λ n. led_to met (suc i) n xs) (to ∙ ap (λ n. if n == 65 then 65 else x) is) ∙ d
  one_leads true true false i x t z xs fits d is to = ap (λ n. led_to met (suc i) n xs) (to ∙ ap (λ n. if n == 65 then 65 else x) is) ∙ d
  one_leads true false true i x t z xs fits d is to = ap (λ n. led_to met (suc i) n xs) (to ∙ ap (λ n. if n == 65 then 65 else x) is) ∙ past_all met (suc i) 65 xs (omega (arith, fits))
  one_leads true false false i x t z xs fits d is to = ap (λ n. led_to met (suc i) n xs) (to ∙ ap (λ n. if n == 65 then 65 else x) is) ∙ past_all met (suc i) 65 xs (omega (arith, fits))
  one_leads false true true i x t z xs fits d is to = ap (λ n. led_to met (suc i) n xs) (to ∙ ap (λ n. if n == 64 then 64 else x) is) ∙ past_all met (suc i) 64 xs (omega (arith, fits))
  one_leads false true false i x t z xs fits d is to = ap (λ n. led_to met (suc i) n xs) (to ∙ ap (λ n. if n == 64 then 64 else x) is) ∙ past_all met (suc i) 64 xs (omega (arith, fits))
  one_leads false false true i x t z xs fits d is to = ap (λ n. led_to met (suc i) n xs) (to ∙ ap (λ n. if n == 64 then 64 else x) is) ∙ d
  one_leads false false false i x t z xs fits d is to = ap (λ n. led_to met (suc i) n xs) (to ∙ ap (λ n. if n == 64 then 64 else x) is) ∙ d

  truth_joined : (is_and : Bool) (f g : Formula) → truth (joined_by is_and f g) (subject_holds subject) ≡ (if is_and then truth f (subject_holds subject) && truth g (subject_holds subject) else truth f (subject_holds subject) || truth g (subject_holds subject))
  truth_joined true f g = refl
  truth_joined false f g = refl

  pub merged_decides : (is_and : Bool) (f g : Formula) (i : ℕ) (x t z : Test) (xs : List Test) → suc i + length xs ≤ 64 → Decide subject f i (x ∷ xs) → led_by subject z ≡ (if truth g (subject_holds subject) then 64 else 65)
      → led_by subject t ≡ (if led_by subject z == decided is_and then decided is_and else led_by subject x) → Decide subject (joined_by is_and f g) i (t ∷ xs)
  merged_decides is_and f g i x t z xs fits df dg to =
      from_head i t xs
      ∙ one_leads is_and (truth g (subject_holds subject)) (truth f (subject_holds subject)) i (led_by subject x) (led_by subject t) (led_by subject z) xs fits (sym (from_head i x xs) ∙ df) dg to
      ∙ ap (λ b. if b then 64 else 65) (sym (truth_joined is_and f g))

  -- ---- a test before others

  still_met : (x : Test) → met (shifted x) ≡ met x
  still_met x = same subject where
    same : (o : Subject) → subject_meets o (shifted x) ≡ subject_meets o x
    same (alone None) = refl
    same (alone (Some s)) = refl
    same (framed f None) = refl
    same (framed f (Some s)) = refl

  shifted_index : (i n : ℕ) → suc i < 64 → (suc i == index_shifted n) ≡ (i == n)
  shifted_index i n small = elim (cases_lt n 64) [
    | inl less ↦ grind (arith, common_steps, eqb_tells, less)
    | inr out ↦ grind (arith, common_steps, eqb_tells, out, small)
  ]

  shifted_choice : (a b : Bool) (m u n : ℕ) → (if a then (if b then index_shifted m else index_shifted u) else index_shifted n) ≡ index_shifted (if a then (if b then m else u) else n)
  shifted_choice true true m u n = refl
  shifted_choice true false m u n = refl
  shifted_choice false b m u n = refl

  led_shifted : (i n : ℕ) (xs : List Test) → suc i + length xs ≤ 64 → led_to met (suc i) (index_shifted n) (map shifted xs) ≡ index_shifted (led_to met i n xs)
  led_shifted i n [] fits = refl
  led_shifted i n (x ∷ xs) fits =
      ap (λ k. led_to met (suc (suc i)) k (map shifted xs)) (rw (still_met x, shifted_index i n (omega (arith, fits))) (shifted_choice (i == n) (met x) x.if_met x.if_not n))
      ∙ led_shifted (suc i) (if i == n then (if met x then x.if_met else x.if_not) else n) xs (omega (arith, fits))

  decide_shifted : (f : Formula) (i : ℕ) (xs : List Test) → suc i + length xs ≤ 64 → i < 64 → Decide subject f i xs → led_to met (suc i) (suc i) (map shifted xs) ≡ (if truth f (subject_holds subject) then 64 else 65)
  decide_shifted f i xs fits small d =
      let next : suc i ≡ index_shifted i = grind (arith, common_steps, small) in
      ap (λ n. led_to met (suc i) n (map shifted xs)) next ∙ led_shifted i i xs fits ∙ ap index_shifted d ∙ end (truth f (subject_holds subject)) where
        end : (t : Bool) → index_shifted (if t then 64 else 65) ≡ (if t then 64 else 65)
        end true = refl
        end false = refl

  front_leads : (is_and u v : Bool) (i : ℕ) (t : ℕ) (ys : List Test) → suc i + length ys ≤ 64 → led_to met (suc i) (suc i) ys ≡ (if v then 64 else 65)
      → t ≡ (if u then (if is_and then suc i else 64) else (if is_and then 65 else suc i)) → led_to met (suc i) t ys ≡ (if (if is_and then v && u else v || u) then 64 else 65)
  front_leads true true true i t ys fits d to = ap (λ n. led_to met (suc i) n ys) to ∙ d
  front_leads true true false i t ys fits d to = ap (λ n. led_to met (suc i) n ys) to ∙ d
  front_leads true false true i t ys fits d to = ap (λ n. led_to met (suc i) n ys) to ∙ past_all met (suc i) 65 ys (omega (arith, fits))
  front_leads true false false i t ys fits d to = ap (λ n. led_to met (suc i) n ys) to ∙ past_all met (suc i) 65 ys (omega (arith, fits))
  front_leads false true true i t ys fits d to = ap (λ n. led_to met (suc i) n ys) to ∙ past_all met (suc i) 64 ys fits
  front_leads false true false i t ys fits d to = ap (λ n. led_to met (suc i) n ys) to ∙ past_all met (suc i) 64 ys fits
  front_leads false false true i t ys fits d to = ap (λ n. led_to met (suc i) n ys) to ∙ d
  front_leads false false false i t ys fits d to = ap (λ n. led_to met (suc i) n ys) to ∙ d

  all_shifted : (t : Test) (xs : List Test) (z : Test) → put_first t (xs ++ z ∷ []) ≡ t ∷ map shifted xs
  unfolding put_first
  all_shifted t [] z = refl
  all_shifted t (x ∷ xs) z = ap (λ ys. t ∷ ys) (all_shifted (shifted x) xs z)

  pub put_first_decides : (is_and : Bool) (f g : Formula) (i next : ℕ) (t z : Test) (xs old new : List Test) → old ≡ xs ++ z ∷ [] → i + length old ≤ 64 → next ≡ i + 1 → Decide subject f i xs
      → led_by subject t ≡ (if truth g (subject_holds subject) then (if is_and then next else 64) else (if is_and then 65 else next)) → new ≡ put_first t old → Decide subject (joined_by is_and f g) i new
  put_first_decides is_and f g i next t z xs old new split fits one df to put =
      let after : next ≡ suc i = omega (arith, one) in
      let len : suc i + length xs ≤ 64 = omega (arith, fits, ap length split, length-append xs (z ∷ [])) in
      let room : suc i + length (map shifted xs) ≤ 64 = omega (arith, len, length-map xs shifted) in
      let leads : led_by subject t ≡ (if truth g (subject_holds subject) then (if is_and then suc i else 64) else (if is_and then 65 else suc i))
      = to ∙ ap (λ n. if truth g (subject_holds subject) then (if is_and then n else 64) else (if is_and then 65 else n)) after in
      ap (led_to met i i) (put ∙ ap (put_first t) split ∙ all_shifted t xs z)
      ∙ from_head i t (map shifted xs)
      ∙ front_leads is_and (truth g (subject_holds subject)) (truth f (subject_holds subject)) i (led_by subject t) (map shifted xs) room (decide_shifted f i xs len (omega (arith, len)) df) leads
      ∙ ap (λ b. if b then 64 else 65) (sym (truth_joined is_and f g))

-- ---- a test that is redirected

led_redirected : (a b : ℕ) (x : Test) (subject : Subject) → led_by subject (redirected a b x) ≡ index_moved a b (led_by subject x)
led_redirected a b x subject = of_each subject where
  choice : (t : Bool) → (if t then index_moved a b x.if_met else index_moved a b x.if_not) ≡ index_moved a b (if t then x.if_met else x.if_not)
  choice true = refl
  choice false = refl

  of_each : (o : Subject) → led_by o (redirected a b x) ≡ index_moved a b (led_by o x)
  of_each (alone None) = refl
  of_each (alone (Some s)) = choice (meets x (dissected s))
  of_each (framed f None) = choice (meets_in f None x)
  of_each (framed f (Some s)) = choice (meets_in f (Some s) x)

pub turned : (subject : Subject) (a b : ℕ) (x y : Test) (t : Bool) → y ≡ redirected a b x → led_by subject x ≡ (if t then 64 else 65) → led_by subject y ≡ (if t then a else b)
turned subject a b x y t is leads = ap (led_by subject) is ∙ led_redirected a b x subject ∙ ap (index_moved a b) leads ∙ end t where
  end : (t : Bool) → index_moved a b (if t then 64 else 65) ≡ (if t then a else b)
  end true = refl
  end false = refl

-- ---- operands whose tests follow one another, of which the last has one

-- the first test of all but the last
pub merged_first : (subject : Subject) (is_and : Bool) (f g : Formula) (i n d : ℕ) (t z e1 e2 : Test) (xs old : List Test) → old ≡ xs ++ z ∷ [] → 2 ≤ length old → n ≡ length old - 1 → d ≡ decided is_and
    → i + length old ≤ 64 → ((subject : Subject) → led_by subject t ≡ (if led_by subject (slice_index_or old n e1) == d then d else led_by subject (slice_index_or old 0 e2)))
    → Decide subject f i xs → led_by subject z ≡ (if truth g (subject_holds subject) then 64 else 65) → Decide subject (joined_by is_and f g) i (take n (slice_set old 0 t))
merged_first subject is_and f g i n d t z e1 e2 [] old split two last end fits to df dg = absurd (omega (arith, two, ap length split))
merged_first subject is_and f g i n d t z e1 e2 (x ∷ xs) old split two last end fits to df dg =
    let len : n ≡ length (x ∷ xs) = omega (arith, last, ap length split, length-append (x ∷ xs) (z ∷ [])) in
    let at : slice_index_or old n e1 ≡ z = rw (split, len) (get_or-append_seam (x ∷ xs) z [] e1) in
    let first : slice_index_or old 0 e2 ≡ x = ap (λ ys. slice_index_or ys 0 e2) split in
    let front : take n (slice_set old 0 t) ≡ t ∷ xs = ap (λ ys. take n (slice_set ys 0 t)) split ∙ ap (λ k. take k (t ∷ (xs ++ z ∷ []))) len ∙ ap (λ ys. t ∷ ys) (take-append_seam xs (z ∷ [])) in
    subst (Decide subject (joined_by is_and f g) i) (sym front)
    (merged_decides subject is_and f g i x t z xs (omega (arith, fits, ap length split, length-append xs (z ∷ []))) df dg
    (to subject ∙ ap (λ y. if led_by subject y == d then d else led_by subject (slice_index_or old 0 e2)) at ∙ ap (λ y. if led_by subject z == d then d else led_by subject y) first ∙ ap (λ k. if led_by subject z == k then k else led_by subject x) end))

put_len : (t : Test) (xs : List Test) → length (put_first t xs) ≡ length xs
unfolding put_first
put_len t [] = refl
put_len t (x ∷ xs) = ap suc (put_len (shifted x) xs)

-- the last test before the others
pub last_first : (subject : Subject) (is_and : Bool) (f g : Formula) (i next d : ℕ) (t z e : Test) (xs old new : List Test) → old ≡ xs ++ z ∷ [] → 2 ≤ length old → d ≡ length old - 1 → i + length old ≤ 64 → next ≡ i + 1
    → Decide subject f i xs → led_by subject z ≡ (if truth g (subject_holds subject) then 64 else 65)
    → ((subject : Subject) (g : Formula) → led_by subject (slice_index_or old d e) ≡ (if truth g (subject_holds subject) then 64 else 65) → led_by subject t ≡ (if truth g (subject_holds subject) then (if is_and then next else 64) else (if is_and then 65 else next)))
    → new ≡ put_first t old → Decide subject (joined_by is_and f g) i (take (length old) new)
last_first subject is_and f g i next d t z e xs old new split two last fits one df dg leads put =
    let len : d ≡ length xs = omega (arith, last, ap length split, length-append xs (z ∷ [])) in
    let at : slice_index_or old d e ≡ z = rw (split, len) (get_or-append_seam xs z [] e) in
    let all : take (length old) new ≡ new = take_all (length old) new (omega (arith, ap length put, put_len t old)) in
    subst (Decide subject (joined_by is_and f g) i) (sym all) (put_first_decides subject is_and f g i next t z xs old new split fits one df (leads subject g (ap (led_by subject) at ∙ dg)) put)

-- ---- one by one

-- what is read past the end
abbrev pub zeros : Test
zeros = record { number = 0; address_high = 0; address_low = 0; kind = 0; comparison = 0; version = 0; prefix_len = 0; if_met = 0; if_not = 0 }

put_on : (i : ℕ) (xs : List Test) (c d : Test) → i < length xs → take i xs ++ put_first c (drop i xs) ≡ take (suc i) (slice_set xs i c) ++ put_first (shifted (slice_index_or xs i d)) (drop (suc i) (slice_set xs i c))
unfolding put_first
put_on i [] c d within = absurd (omega (arith, within))
put_on zero (x ∷ xs) c d within = refl
put_on (suc i) (x ∷ xs) c d within = ap (λ ys. x ∷ ys) (put_on i xs c d (omega (arith, within)))

pub all_put : (i : ℕ) (xs : List Test) (c : Test) → length xs ≤ i → take i xs ++ put_first c (drop i xs) ≡ xs
unfolding put_first
all_put zero [] c out = refl
all_put (suc i) [] c out = refl
all_put zero (x ∷ xs) c out = absurd (omega (arith, out))
all_put (suc i) (x ∷ xs) c out = ap (λ ys. x ∷ ys) (all_put i xs c (omega (arith, out)))

pub put_next : (i : ℕ) (xs : List Test) (c d : Test) → i < length xs → take i xs ++ put_first c (drop i xs) ≡ take (i + 1) (slice_set xs i c) ++ put_first (shifted (slice_index_or xs i d)) (drop (i + 1) (slice_set xs i c))
put_next i xs c d within = put_on i xs c d within ∙ ap (λ j. take j (slice_set xs i c) ++ put_first (shifted (slice_index_or xs i d)) (drop j (slice_set xs i c))) (sym (add-one i))

-- ---- the tests of all formulas

in_two : (i j : ℕ) (xs : List Test) → i ≤ j → drop i (take j xs) ++ drop j xs ≡ drop i xs
in_two zero zero xs less = refl
in_two zero (suc j) [] less = refl
in_two zero (suc j) (x ∷ xs) less = ap (λ ys. x ∷ ys) (in_two zero j xs (omega arith))
in_two (suc i) zero xs less = absurd (omega (arith, less))
in_two (suc i) (suc j) [] less = refl
in_two (suc i) (suc j) (x ∷ xs) less = in_two i j xs (omega (arith, less))

only_one : (xs : List Test) → length xs ≡ 1 → (z : Test) × (xs ≡ z ∷ [])
only_one [] one = absurd (omega (arith, one))
only_one (z ∷ []) one = (z, refl)
only_one (z ∷ y ∷ xs) one = absurd (omega (arith, one))

joined_terms : (is_and : Bool) (f g : Formula) → terms_of (joined_by is_and f g) ≡ terms_of f + terms_of g
joined_terms true f g = refl
joined_terms false f g = refl

module _ (subject : Subject) (is_and : Bool) (f g : Formula) (fs : List Formula) (mid : List ℕ) (first second n : ℕ) (xs ys old new : List Test) where
  flags_joined : second + 1 ≡ length xs → first < second → ((rest : List ℕ) (i : ℕ) → mid ≡ rest ++ i ∷ [] → first ≡ i) → terms_of g + (terms_of f + terms_of_all fs) ≤ 64
      → old ≡ drop first xs → ys ≡ take first xs ++ take n new → 0 < n → n ≤ length old → length new ≡ length old
      → ((f g : Formula) (zs : List Test) (z : Test) → old ≡ zs ++ z ∷ [] → first + length old ≤ 64 → Decide subject f first zs → led_by subject z ≡ (if truth g (subject_holds subject) then 64 else 65)
      → Decide subject (joined_by is_and f g) first (take n new))
      → AreCompiled subject (g ∷ f ∷ fs) (mid ++ second ∷ []) xs → AreCompiled subject (joined_by is_and f g ∷ fs) mid ys
  flags_joined last before start few block after some most len decide w = parts (top_popped subject g (f ∷ fs) (mid ++ second ∷ []) mid second xs refl w) where
    all : length xs ≤ 64
    all = omega (arith, few, compiled_tests subject (g ∷ f ∷ fs) (mid ++ second ∷ []) xs w)

    parts : (second < length xs) × (length xs ≤ second + terms_of g) × Decide subject g second (drop second xs) × AreCompiled subject (f ∷ fs) mid (take second xs) → AreCompiled subject (joined_by is_and f g ∷ fs) mid ys
    parts (some_g, size_g, dg, (rest, i, e, some_f, size_f, df, are)) =
        let same : i ≡ first = sym (start rest i e) in
        let head : length (take second xs) ≡ second = length-take-le second xs (omega (arith, some_g)) in
        let one = only_one (drop second xs) (omega (arith, last, length-drop second xs)) in
        let split : old ≡ drop first (take second xs) ++ one.0 ∷ [] = block ∙ sym (in_two first second xs (omega (arith, before))) ∙ ap (λ zs. drop first (take second xs) ++ zs) one.1 in
        let front_len : length (take first xs) ≡ first = length-take-le first xs (omega (arith, before, last)) in
        let block_len : length old ≡ length xs - first = ap length block ∙ length-drop first xs in
        let back_len : length (take n new) ≡ n = length-take-le n new (omega (arith, most, len)) in
        let total : length ys ≡ first + n = ap length after ∙ length-append (take first xs) (take n new) ∙ omega (arith, front_len, back_len) in
        let front : take first ys ≡ take first (take second xs) = ap (take first) after ∙ take_at (take first xs) (take n new) first front_len ∙ sym (take-take first second xs (omega (arith, before))) in
        let back : drop first ys ≡ take n new = ap (drop first) after ∙ drop_at (take first xs) (take n new) first front_len in (
          rest,
          first,
          e ∙ ap (λ k. rest ++ k ∷ []) same,
          omega (arith, total, some),
          omega (arith, total, most, block_len, size_g, size_f, head, same, before, last, joined_terms is_and f g),
          subst (Decide subject (joined_by is_and f g) first) (sym back)
              (decide f g (drop first (take second xs)) one.0 split (omega (arith, block_len, all, before, last)) (subst (λ k. Decide subject f k (drop k (take second xs))) same df)
              (sym (alone_leads subject second one.0) ∙ ap (led_to (subject_meets subject) second second) (sym one.1) ∙ dg)),
          subst (AreCompiled subject fs rest) (sym front) (subst (λ k. AreCompiled subject fs rest (take k (take second xs))) same are),
        )

-- ---- a part of the array

block_of : (a e : ℕ) (all : List Test) → a ≤ e → take (e - a) (drop a all) ≡ drop a (take e all)
block_of a e all less =
    let sum : a + (e - a) ≡ e = omega (arith, less) in
    sym (drop-take a (e - a) all) ∙ ap (λ k. drop a (take k all)) sum

block_put : (a k n : ℕ) (all new : List Test) → a ≤ length all → n ≤ length new → take (a + n) (put_mid a k all new) ≡ take a all ++ take n new
block_put a k n all new within few =
    let len : length (take a all) ≡ a = length-take-le a all within in
    let front : take n (new ++ post_of a k all) ≡ take n new = sym (take-take n (length new) (new ++ post_of a k all) few) ∙ ap (take n) (take-append_seam new (post_of a k all)) in
    ap (λ j. take (j + n) (put_mid a k all new)) (sym len) ∙ take-append-add (take a all) (new ++ post_of a k all) n ∙ ap (λ ys. take a all ++ ys) front

module _ (subject : Subject) (is_and : Bool) (f g : Formula) (fs : List Formula) (mid : List ℕ) (start first second e n : ℕ) (all new : List Test) where
  pub joined_in_place : length all ≡ 64 → e ≤ 64 → e - second ≡ 1 → first < second → first ≡ start → ((rest : List ℕ) (i : ℕ) → mid ≡ rest ++ i ∷ [] → start ≡ i) → terms_of g + (terms_of f + terms_of_all fs) ≤ 64
      → (0 < n) × (n ≤ length (mid_of first (e - first) all)) → length new ≡ length (mid_of first (e - first) all)
      → ((f g : Formula) (zs : List Test) (z : Test) → mid_of first (e - first) all ≡ zs ++ z ∷ [] → start + length (mid_of first (e - first) all) ≤ 64 → Decide subject f start zs → led_by subject z ≡ (if truth g (subject_holds subject) then 64 else 65)
      → Decide subject (joined_by is_and f g) start (take n new))
      → AreCompiled subject (g ∷ f ∷ fs) (mid ++ second ∷ []) (take e all) → AreCompiled subject (joined_by is_and f g ∷ fs) mid (take (first + n) (put_mid first (e - first) all new))
  joined_in_place size fits last before same at few some len decide are =
      let all_len : length (take e all) ≡ e = length-take-le e all (omega (arith, size, fits)) in
      let within : first ≤ length all = omega (arith, size, fits, last, before) in
      let most = some.1 in
      let put : take (first + n) (put_mid first (e - first) all new) ≡ take first (take e all) ++ take n new
      = block_put first (e - first) n all new within (omega (arith, most, len)) ∙ ap (λ ys. ys ++ take n new) (sym (take-take first e all (omega (arith, last, before)))) in
      flags_joined subject is_and f g fs mid first second n (take e all) (take (first + n) (put_mid first (e - first) all new)) (mid_of first (e - first) all) new
      (omega (arith, all_len, last)) before (λ rest i is. same ∙ at rest i is) few (block_of first e all (omega (arith, last, before))) put some.0 most len
      (subst (λ k. (f g : Formula) (zs : List Test) (z : Test) → mid_of first (e - first) all ≡ zs ++ z ∷ [] → k + length (mid_of first (e - first) all) ≤ 64 → Decide subject f k zs → led_by subject z ≡ (if truth g (subject_holds subject) then 64 else 65)
      → Decide subject (joined_by is_and f g) k (take n new)) (sym same) decide)
      are
