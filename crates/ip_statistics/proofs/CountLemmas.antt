-- Sums of counts.
use Rattle.std.proofs.Common.{◌≡◌, ℕ, suc, zero, ◌+◌, ◌<◌, ◌≤◌, ◌≢◌, inl, inr, subst, List, [], ◌∷◌, length, get_or, set, replicate, refl, sym, ◌∙◌, ap, arith, Fits, w64}
use Rattle.std.proofs.lemmas.List.{ext_get_or, length-set, get_or-set_same, get_or-set_other}
use Rattle.std.proofs.lemmas.List.FromFn.{length-map-range_with_len, get_or-map-range_with_len}
use Rattle.std.proofs.lemmas.Bool.{cases_eq}
use Rattle.ip_statistics.specs.Counts.{added, all_added, each_below}

pub added_comm : (a b : ℕ) → added a b ≡ added b a
added_comm a b = omega arith

pub added_assoc : (a b c : ℕ) → added (added a b) c ≡ added a (added b c)
added_assoc a b c = omega arith

-- two sums make one
pub added-added : (a b c : ℕ) → added (added a b) c ≡ added a (b + c)
added-added a b c = omega arith

pub added-zero : (a : ℕ) → Fits w64 a → added a 0 ≡ a
added-zero a h = omega (arith, h)

pub all_added_comm : (xs ys : List ℕ) → all_added xs ys ≡ all_added ys xs
unfolding all_added
all_added_comm [] [] = refl
all_added_comm [] (y ∷ ys) = refl
all_added_comm (x ∷ xs) [] = refl
all_added_comm (x ∷ xs) (y ∷ ys) = cc (added_comm x y, all_added_comm xs ys)

pub all_added_assoc : (xs ys zs : List ℕ) → all_added (all_added xs ys) zs ≡ all_added xs (all_added ys zs)
unfolding all_added
all_added_assoc [] ys zs = refl
all_added_assoc (x ∷ xs) [] zs = refl
all_added_assoc (x ∷ xs) (y ∷ ys) [] = refl
all_added_assoc (x ∷ xs) (y ∷ ys) (z ∷ zs) = cc (added_assoc x y z, all_added_assoc xs ys zs)

pub length-all_added : (xs ys : List ℕ) → length xs ≡ length ys → length (all_added xs ys) ≡ length xs
unfolding all_added
length-all_added [] ys e = refl
length-all_added (x ∷ xs) [] e = cc e
length-all_added (x ∷ xs) (y ∷ ys) e = let tails : length xs ≡ length ys = omega (arith, e) in cc (length-all_added xs ys tails)

pub get_or-all_added : (xs ys : List ℕ) (i d : ℕ) → length xs ≡ length ys → i < length xs → get_or (all_added xs ys) i d ≡ added (get_or xs i d) (get_or ys i d)
unfolding all_added
get_or-all_added [] ys i d e l = omega (arith, l)
get_or-all_added (x ∷ xs) [] i d e l = cc e
get_or-all_added (x ∷ xs) (y ∷ ys) zero d e l = refl
get_or-all_added (x ∷ xs) (y ∷ ys) (suc i) d e l = get_or-all_added xs ys i d (omega (arith, e)) (omega (arith, l))

-- A list is a sum if each of its elements is one.
pub is_all_added : (xs ys zs : List ℕ) → length xs ≡ length ys → length zs ≡ length xs → ((i : ℕ) → i < length xs → get_or zs i 0 ≡ added (get_or xs i 0) (get_or ys i 0)) → zs ≡ all_added xs ys
is_all_added xs ys zs e l same = ext_get_or 0 zs (all_added xs ys) (l ∙ sym (length-all_added xs ys e)) (λ i below.
    let within : i < length xs = omega (arith, below, l) in same i within ∙ sym (get_or-all_added xs ys i 0 e within))

pub length-each_below : (n : ℕ) (f : ℕ → ℕ) → length (each_below n f) ≡ n
unfolding each_below
length-each_below n f = length-map-range_with_len f 0 n

pub get_or-each_below : (n : ℕ) (f : ℕ → ℕ) (i d : ℕ) → i < n → get_or (each_below n f) i d ≡ f i
unfolding each_below
get_or-each_below n f i d l = get_or-map-range_with_len f 0 n i i d l (omega arith)

pub sum_by_place : (xs ys : List ℕ) (n : ℕ) (f : ℕ → ℕ) → length xs ≡ n → length ys ≡ n → ((i : ℕ) → i < n → get_or ys i 0 ≡ added (get_or xs i 0) (f i)) → ys ≡ all_added xs (each_below n f)
sum_by_place xs ys n f e l same = is_all_added xs (each_below n f) ys (e ∙ sym (length-each_below n f)) (l ∙ sym e) (λ i below.
    let within : i < n = omega (arith, below, e) in same i within ∙ ap (added (get_or xs i 0)) (sym (get_or-each_below n f i 0 within)))

-- Equal counts make equal lists.
pub each_below_same : (n : ℕ) (f g : ℕ → ℕ) → ((i : ℕ) → i < n → f i ≡ g i) → each_below n f ≡ each_below n g
each_below_same n f g same = ext_get_or 0 (each_below n f) (each_below n g) (length-each_below n f ∙ sym (length-each_below n g)) (λ i l.
    let below : i < n = omega (arith, l, length-each_below n f) in
    get_or-each_below n f i 0 below ∙ same i below ∙ sym (get_or-each_below n g i 0 below))

-- Nothing is added.
pub sum_of_none : (xs : List ℕ) (n : ℕ) (f : ℕ → ℕ) → length xs ≡ n → ((i : ℕ) → Fits w64 (get_or xs i 0)) → ((i : ℕ) → i < n → f i ≡ 0) → xs ≡ all_added xs (each_below n f)
sum_of_none xs n f e fits zeros = sum_by_place xs xs n f e e (λ i l. sym (ap (added (get_or xs i 0)) (zeros i l) ∙ added-zero (get_or xs i 0) (fits i)))

-- 1 is added to the count at k.
one_added : (xs : List ℕ) (k i : ℕ) (f : ℕ → ℕ) → k < length xs → Fits w64 (get_or (set xs k (added (get_or xs k 0) 1)) i 0) → f k ≡ 1 → (i ≢ k → f i ≡ 0) → get_or (set xs k (added (get_or xs k 0) 1)) i 0 ≡ added (get_or xs i 0) (f i)
one_added xs k i f l fits one none = elim (cases_eq i k) [
  | inl same ↦ subst (λ j. get_or (set xs k (added (get_or xs k 0) 1)) j 0 ≡ added (get_or xs j 0) (f j)) (sym same) (get_or-set_same xs k _ 0 l ∙ ap (added (get_or xs k 0)) (sym one))
  | inr other ↦ let kept : get_or (set xs k (added (get_or xs k 0) 1)) i 0 ≡ get_or xs i 0 = get_or-set_other xs k i _ 0 other in
      kept ∙ sym (ap (added (get_or xs i 0)) (none other) ∙ added-zero (get_or xs i 0) (subst (Fits w64) kept fits))
]

pub sum_of_one : (xs ys : List ℕ) (k : ℕ) (f : ℕ → ℕ) → k < length xs → ys ≡ set xs k (added (get_or xs k 0) 1) → ((i : ℕ) → Fits w64 (get_or ys i 0)) → f k ≡ 1 → ((i : ℕ) → i ≢ k → f i ≡ 0) → ys ≡ all_added xs (each_below (length xs) f)
sum_of_one xs ys k f l e fits one none = sum_by_place xs ys (length xs) f refl (ap length e ∙ length-set xs k _) (λ i _.
    ap (λ zs. get_or zs i 0) e ∙ one_added xs k i f l (subst (λ zs. Fits w64 (get_or zs i 0)) e (fits i)) one (none i))

-- Two sums make one.
pub sum_of_sums : (xs : List ℕ) (n : ℕ) (f g : ℕ → ℕ) → length xs ≡ n → all_added (all_added xs (each_below n f)) (each_below n g) ≡ all_added xs (each_below n (λ i. f i + g i))
sum_of_sums xs n f g e = let lengths : length xs ≡ length (each_below n f) = e ∙ sym (length-each_below n f) in
    let total : length (all_added xs (each_below n f)) ≡ n = length-all_added xs (each_below n f) lengths ∙ e in
    let longer : length (all_added xs (each_below n f)) ≡ length (each_below n g) = total ∙ sym (length-each_below n g) in
    sum_by_place xs (all_added (all_added xs (each_below n f)) (each_below n g)) n (λ i. f i + g i) e (length-all_added (all_added xs (each_below n f)) (each_below n g) longer ∙ total) (λ i l.
    get_or-all_added (all_added xs (each_below n f)) (each_below n g) i 0 longer (omega (arith, l, total))
    ∙ ap (λ v. added v (get_or (each_below n g) i 0)) (get_or-all_added xs (each_below n f) i 0 lengths (omega (arith, l, e)))
    ∙ ap (λ v. added (added (get_or xs i 0) v) (get_or (each_below n g) i 0)) (get_or-each_below n f i 0 l)
    ∙ ap (added (added (get_or xs i 0) (f i))) (get_or-each_below n g i 0 l)
    ∙ added-added (get_or xs i 0) (f i) (g i))

-- Zeros change no sum.
pub sum-zero : (a b : ℕ) → added (added a b) 0 ≡ added a b
sum-zero a b = omega arith

pub all_added-zeros : (xs ys : List ℕ) (n : ℕ) → length xs ≤ n → all_added (all_added xs ys) (replicate n 0) ≡ all_added xs ys
unfolding all_added
all_added-zeros [] ys n l = refl
all_added-zeros (x ∷ xs) [] n l = refl
all_added-zeros (x ∷ xs) (y ∷ ys) zero l = absurd (let h : ⊥ = omega (arith, l) in h)
all_added-zeros (x ∷ xs) (y ∷ ys) (suc n) l = cc (sum-zero x y, all_added-zeros xs ys n (omega (arith, l)))

pub zeros_added : (n : ℕ) → all_added (replicate n 0) (replicate n 0) ≡ replicate n 0
unfolding all_added
zeros_added zero = refl
zeros_added (suc n) = ap (λ zs. 0 ∷ zs) (zeros_added n)

pub of_length : (n : ℕ) (f : ℕ → ℕ) → length (each_below n f) ≤ n
of_length n f = omega (arith, length-each_below n f)
