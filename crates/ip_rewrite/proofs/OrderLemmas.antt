-- A packet with its headers in the recommended order.
use Rattle.ip_spec.proofs.Common.{zero, suc, ◌≡◌, ℕ, ◌+◌, ◌≤◌, ◌<◌, ◌⊎◌, List, [], ◌∷◌, ◌++◌, length, drop, inl, inr, subst, refl, sym, ◌∙◌, ap, arith, common_steps, Bool, true, false, false≢true, cases_Bool, eqb-true, eq-eqb, cond-true, cond-false, if◌then◌else◌, or-false, and-true, ◌&&◌, ◌||◌, ◌==◌, nat_lt, nat_le, list_any, length-append, append_assoc, All-from_recursion, recursion_from_All, AllByRecursion, Option, Some, None, option_or, ExtHeader, bytes_of, HOP_BY_HOP, ROUTING, FRAGMENT, AUTHENTICATION}
use Rattle.ip_spec.specs.Numbers.{DESTINATION_OPTIONS}
use Rattle.std.specs.Prelude.{IsPermutation, unwrap_or}
use Rattle.std.proofs.Math.Bool.{or-true}
use Rattle.std.proofs.lemmas.List.Concat.{length-flat_map}
use Rattle.std.proofs.lemmas.List.Sorted.{IsPermutation-refl, IsPermutation-sym, IsPermutation-trans, IsPermutation-cons, IsPermutation-middle, IsPermutation-append_left, length_permutation, All-permutation, sum_by-IsPermutation}
use Rattle.ip_rewrite.specs.Order.{is_routing, rank_of, rank, of_rank, in_order, rises_from, is_in_order, recommended_index}
use Rattle.ip_rewrite.specs.Writing.{HasOption, routing_index, rank_at, of_rank_from, below_rank, last_rank, rises_at, first_above}
use Rattle.ip_rewrite.proofs.ChainLemmas.{NoZero}
use Rattle.ip_rewrite.proofs.SelectionLemmas.{any_last}

-- one more header
any_more : (b : Bool) (c : List ExtHeader) (h : ExtHeader) → is_routing h ≡ b → list_any is_routing (c ++ h ∷ []) ≡ (list_any is_routing c || b)
any_more b c h is = any_last is_routing c h ∙ ap (λ x. list_any is_routing c || x) is

pub index_there : (c : List ExtHeader) (h : ExtHeader) → is_routing h ≡ true → routing_index (c ++ h ∷ []) ≡ length c
index_there [] h is = refl
index_there (g ∷ c) h is =
    cond-true (list_any is_routing (c ++ h ∷ [])) (routing_index (c ++ h ∷ []) + 1) 0 (any_more true c h is ∙ or-true (list_any is_routing c)) ∙ omega (arith, index_there c h is)

pub index_before : (c : List ExtHeader) (h : ExtHeader) → is_routing h ≡ false → routing_index (c ++ h ∷ []) ≡ routing_index c
index_before [] h isnt = refl
index_before (g ∷ c) h isnt =
    ap (λ b. if b then routing_index (c ++ h ∷ []) + 1 else 0) (any_more false c h isnt ∙ or-false (list_any is_routing c)) ∙ ap (λ n. if list_any is_routing c then n + 1 else 0) (index_before c h isnt)

pub of_more_yes : (k e i j : ℕ) (c : List ExtHeader) (h : ExtHeader) → j ≡ i + length c → rank_at e j h ≡ k → of_rank_from k e i (c ++ h ∷ []) ≡ of_rank_from k e i c ++ h ∷ []
of_more_yes k e i j [] h at is = let same : j ≡ i = omega arith in cond-true (rank_at e i h == k) (h ∷ []) [] (eq-eqb (rank_at e i h) k (ap (λ n. rank_at e n h) (sym same) ∙ is))
of_more_yes k e i j (g ∷ c) h at is =
    let next : j ≡ i + 1 + length c = omega arith in
    ap (λ x. if rank_at e i g == k then g ∷ x else x) (of_more_yes k e (i + 1) j c h next is) ∙ inside (rank_at e i g == k) (of_rank_from k e (i + 1) c)
  where
    inside : (b : Bool) (x : List ExtHeader) → (if b then g ∷ (x ++ h ∷ []) else x ++ h ∷ []) ≡ (if b then g ∷ x else x) ++ h ∷ []
    inside true x = refl
    inside false x = refl

pub of_more_no : (k e i j : ℕ) (c : List ExtHeader) (h : ExtHeader) → j ≡ i + length c → (rank_at e j h == k) ≡ false → of_rank_from k e i (c ++ h ∷ []) ≡ of_rank_from k e i c
of_more_no k e i j [] h at isnt = let same : j ≡ i = omega arith in cond-false (rank_at e i h == k) (h ∷ []) [] (ap (λ n. rank_at e n h == k) (sym same) ∙ isnt)
of_more_no k e i j (g ∷ c) h at isnt =
    let next : j ≡ i + 1 + length c = omega arith in
    ap (λ x. if rank_at e i g == k then g ∷ x else x) (of_more_no k e (i + 1) j c h next isnt)

pub last_more : (k e i j : ℕ) (c : List ExtHeader) (h : ExtHeader) → j ≡ i + length c → last_rank k e i (c ++ h ∷ []) ≡ rank_at e j h
last_more k e i j [] h at = let same : j ≡ i = omega arith in ap (λ n. rank_at e n h) (sym same)
last_more k e i j (g ∷ c) h at = let next : j ≡ i + 1 + length c = omega arith in last_more (rank_at e i g) e (i + 1) j c h next

pub rises_more : (k e i j : ℕ) (c : List ExtHeader) (h : ExtHeader) → j ≡ i + length c → rises_at k e i (c ++ h ∷ []) ≡ (rises_at k e i c && nat_le (last_rank k e i c) (rank_at e j h))
rises_more k e i j [] h at = let same : j ≡ i = omega arith in and-true (nat_le k (rank_at e i h)) ∙ ap (λ n. nat_le k (rank_at e n h)) (sym same)
rises_more k e i j (g ∷ c) h at =
    let next : j ≡ i + 1 + length c = omega arith in
    ap (λ b. nat_le k (rank_at e i g) && b) (rises_more (rank_at e i g) e (i + 1) j c h next)
    ∙ regroup (nat_le k (rank_at e i g)) (rises_at (rank_at e i g) e (i + 1) c) (nat_le (last_rank (rank_at e i g) e (i + 1) c) (rank_at e j h))
  where
    regroup : (x y z : Bool) → (x && (y && z)) ≡ ((x && y) && z)
    regroup true y z = refl
    regroup false y z = refl

-- The ranks by the index of the last routing header are those by the headers that follow.
abbrev RanksAgree : ℕ → ℕ → List ExtHeader → Type 0
RanksAgree e i [] = Unit {0}
RanksAgree e i (h ∷ c) = (rank_at e i h ≡ rank h c) × RanksAgree e (i + 1) c

rank_same : (e i : ℕ) (h : ExtHeader) (c : List ExtHeader) → nat_lt i e ≡ list_any is_routing c → rank_at e i h ≡ rank h c
rank_same e i h c same = rw same refl

less : (i n : ℕ) → i < n → nat_lt i n ≡ true
less i n l = grind (arith, common_steps)

not_less : (i n : ℕ) → n ≤ i → nat_lt i n ≡ false
not_less i n l = grind (arith, common_steps)

second : (a b : Bool) → (a || b) ≡ false → b ≡ false
second true b e = absurd (false≢true (sym e))
second false b e = e

agree_none : (e i : ℕ) (c : List ExtHeader) → e ≤ i → list_any is_routing c ≡ false → RanksAgree e i c
agree_none e i [] beyond none = tt
agree_none e i (h ∷ c) beyond none =
    let rest : list_any is_routing c ≡ false = second (is_routing h) (list_any is_routing c) none in
    (rank_same e i h c (not_less i e beyond ∙ sym rest), agree_none e (i + 1) c (omega (arith, beyond)) rest)

agree : (i : ℕ) (c : List ExtHeader) → RanksAgree (i + routing_index c) i c
agree i [] = tt
agree i (h ∷ c) = elim (cases_Bool (list_any is_routing c)) [
  | inl some ↦
      let e : ℕ = i + routing_index (h ∷ c) in
      let size : routing_index (h ∷ c) ≡ routing_index c + 1 = cond-true (list_any is_routing c) (routing_index c + 1) 0 some in
      let next : i + 1 + routing_index c ≡ e = omega (arith, size) in
      (rank_same e i h c (less i e (omega (arith, size)) ∙ sym some), subst (λ n. RanksAgree n (i + 1) c) next (agree (i + 1) c))
  | inr none ↦
      let e : ℕ = i + routing_index (h ∷ c) in
      let size : routing_index (h ∷ c) ≡ 0 = cond-false (list_any is_routing c) (routing_index c + 1) 0 none in
      (rank_same e i h c (not_less i e (omega (arith, size)) ∙ sym none), agree_none e (i + 1) c (omega (arith, size)) none)
]

agreed : (c : List ExtHeader) → RanksAgree (routing_index c) 0 c
agreed c = let same : 0 + routing_index c ≡ routing_index c = omega arith in subst (λ e. RanksAgree e 0 c) same (agree 0 c)

of_rank_same : (k e i : ℕ) (c : List ExtHeader) → RanksAgree e i c → of_rank_from k e i c ≡ of_rank k c
of_rank_same k e i [] a = refl
of_rank_same k e i (h ∷ c) a = ap (λ n. if n == k then h ∷ of_rank_from k e (i + 1) c else of_rank_from k e (i + 1) c) a.0 ∙ ap (λ x. if rank h c == k then h ∷ x else x) (of_rank_same k e (i + 1) c a.1)

rises_same : (k e i : ℕ) (c : List ExtHeader) → RanksAgree e i c → rises_at k e i c ≡ rises_from k c
rises_same k e i [] a = refl
rises_same k e i (h ∷ c) a = ap (λ n. nat_le k n && rises_at n e (i + 1) c) a.0 ∙ ap (λ b. nat_le k (rank h c) && b) (rises_same (rank h c) e (i + 1) c a.1)

pub rises_is : (c : List ExtHeader) → rises_at 0 (routing_index c) 0 c ≡ is_in_order c
rises_is c = rises_same 0 (routing_index c) 0 c (agreed c)

pub below_is : (c : List ExtHeader) → below_rank 5 (routing_index c) c ≡ in_order c
below_is c =
    let e : ℕ = routing_index c in
    let a : RanksAgree e 0 c = agreed c in
    rw (of_rank_same 0 e 0 c a, of_rank_same 1 e 0 c a, of_rank_same 2 e 0 c a, of_rank_same 3 e 0 c a, of_rank_same 4 e 0 c a) refl

abbrev chosen : Bool → Bool → Bool → Bool → ℕ
chosen a b d e = if a then 0 else if b then 1 else if d then 2 else if e then 3 else 4

-- what is in order is all that was there
pub cases_rank : (h : ExtHeader) (c : List ExtHeader) → (rank h c ≡ 0) ⊎ ((rank h c ≡ 1) ⊎ ((rank h c ≡ 2) ⊎ ((rank h c ≡ 3) ⊎ (rank h c ≡ 4))))
cases_rank h c = one_of (h.number == HOP_BY_HOP) ((h.number == ROUTING) || (h.number == DESTINATION_OPTIONS) && list_any is_routing c) (h.number == FRAGMENT) (h.number == AUTHENTICATION)
  where
    one_of : (a b d e : Bool) → (chosen a b d e ≡ 0) ⊎ ((chosen a b d e ≡ 1) ⊎ ((chosen a b d e ≡ 2) ⊎ ((chosen a b d e ≡ 3) ⊎ (chosen a b d e ≡ 4))))
    one_of true b d e = inl refl
    one_of false true d e = inr (inl refl)
    one_of false false true e = inr (inr (inl refl))
    one_of false false false true = inr (inr (inr (inl refl)))
    one_of false false false false = inr (inr (inr (inr refl)))

of_first : (k n : ℕ) (h : ExtHeader) (c : List ExtHeader) → rank h c ≡ n → of_rank k (h ∷ c) ≡ (if n == k then h ∷ of_rank k c else of_rank k c)
of_first k n h c is = ap (λ r. if r == k then h ∷ of_rank k c else of_rank k c) is

-- with the header h before those of the rank k
abbrev pub with_first : ℕ → ExtHeader → List ExtHeader → List ExtHeader
with_first k h c =
    (if k == 0 then h ∷ of_rank 0 c else of_rank 0 c) ++ (if k == 1 then h ∷ of_rank 1 c else of_rank 1 c) ++ (if k == 2 then h ∷ of_rank 2 c else of_rank 2 c)
    ++ (if k == 3 then h ∷ of_rank 3 c else of_rank 3 c) ++ (if k == 4 then h ∷ of_rank 4 c else of_rank 4 c)

pub first_at : (k : ℕ) (h : ExtHeader) (c : List ExtHeader) → rank h c ≡ k → in_order (h ∷ c) ≡ with_first k h c
first_at k h c is = rw (of_first 0 k h c is, of_first 1 k h c is, of_first 2 k h c is, of_first 3 k h c is, of_first 4 k h c is) refl

before : (h : ExtHeader) (x y z : List ExtHeader) → IsPermutation (h ∷ ((x ++ y) ++ z)) ((x ++ h ∷ y) ++ z)
before h x y z = IsPermutation-append_left z (h ∷ (x ++ y)) (x ++ h ∷ y) (IsPermutation-sym (x ++ h ∷ y) (h ∷ (x ++ y)) (IsPermutation-middle x h y))

moved : (h : ExtHeader) (c : List ExtHeader) → IsPermutation (h ∷ in_order c) (in_order (h ∷ c))
moved h c =
    let a : List ExtHeader = of_rank 0 c in
    let b : List ExtHeader = of_rank 1 c in
    let d : List ExtHeader = of_rank 2 c in
    let e : List ExtHeader = of_rank 3 c in
    let f : List ExtHeader = of_rank 4 c in
    elim (cases_rank h c) [
      | inl is ↦ subst (IsPermutation (h ∷ in_order c)) (sym (first_at 0 h c is)) (IsPermutation-refl (h ∷ in_order c))
      | inr others ↦ elim others [
        | inl is ↦ subst (IsPermutation (h ∷ in_order c)) (sym (first_at 1 h c is))
            (IsPermutation-append_left f (h ∷ (a ++ b ++ d ++ e)) (a ++ (h ∷ b) ++ d ++ e) (IsPermutation-append_left e (h ∷ (a ++ b ++ d)) (a ++ (h ∷ b) ++ d) (before h a b d)))
        | inr others ↦ elim others [
          | inl is ↦ subst (IsPermutation (h ∷ in_order c)) (sym (first_at 2 h c is))
              (IsPermutation-append_left f (h ∷ (a ++ b ++ d ++ e)) (a ++ b ++ (h ∷ d) ++ e) (before h (a ++ b) d e))
          | inr others ↦ elim others [
            | inl is ↦ subst (IsPermutation (h ∷ in_order c)) (sym (first_at 3 h c is)) (before h (a ++ b ++ d) e f)
            | inr is ↦ subst (IsPermutation (h ∷ in_order c)) (sym (first_at 4 h c is))
                (IsPermutation-sym ((a ++ b ++ d ++ e) ++ h ∷ f) (h ∷ ((a ++ b ++ d ++ e) ++ f)) (IsPermutation-middle (a ++ b ++ d ++ e) h f))
          ]
        ]
      ]
    ]

pub ordered_permutation : (c : List ExtHeader) → IsPermutation c (in_order c)
ordered_permutation [] = IsPermutation-refl []
ordered_permutation (h ∷ c) = IsPermutation-trans (h ∷ c) (h ∷ in_order c) (in_order (h ∷ c)) (IsPermutation-cons h c (in_order c) (ordered_permutation c)) (moved h c)

pub ordered_len : (c : List ExtHeader) → length (bytes_of (in_order c)) ≡ length (bytes_of c)
ordered_len c = length-flat_map (λ h. h.bytes) (in_order c) ∙ (sum_by-IsPermutation (λ h. length h.bytes) c (in_order c) (ordered_permutation c) ∙ sym (length-flat_map (λ h. h.bytes) c))

pub all_ordered : (P : ExtHeader → Type 0) (c : List ExtHeader) → AllByRecursion P c → AllByRecursion P (in_order c)
all_ordered P c a = recursion_from_All P (in_order c) (All-permutation P c (in_order c) (ordered_permutation c) (All-from_recursion P c a))

pub ordered_count : (c : List ExtHeader) → length (in_order c) ≡ length c
ordered_count c = length_permutation c (in_order c) (ordered_permutation c)

-- Hop-by-hop options are only first.
zero_is : (a b d e : Bool) → chosen a b d e ≡ 0 → a ≡ true
zero_is true b d e is = refl
zero_is false true d e is = absurd (omega (arith, is))
zero_is false false true e is = absurd (omega (arith, is))
zero_is false false false true is = absurd (omega (arith, is))
zero_is false false false false is = absurd (omega (arith, is))

pub none_zero : (k : ℕ) (c : List ExtHeader) → (k ≡ 0 → ⊥) → NoZero (of_rank k c)
none_zero k [] other = tt
none_zero k (h ∷ c) other = elim (cases_Bool (rank h c == k)) [
  | inl s ↦ subst NoZero (sym (cond-true (rank h c == k) (h ∷ of_rank k c) (of_rank k c) s)) ((λ z. other (sym (eqb-true (rank h c) k s) ∙ ap (λ b. chosen b ((h.number == ROUTING) || (h.number == DESTINATION_OPTIONS) && list_any is_routing c) (h.number == FRAGMENT) (h.number == AUTHENTICATION)) (eq-eqb h.number 0 z))), none_zero k c other)
  | inr s ↦ subst NoZero (sym (cond-false (rank h c == k) (h ∷ of_rank k c) (of_rank k c) s)) (none_zero k c other)
]

pub no_first : (c : List ExtHeader) → NoZero c → of_rank 0 c ≡ []
no_first [] a = refl
no_first (h ∷ c) a =
    elim (cases_Bool (rank h c == 0)) [
      | inl s ↦ absurd (a.0 (eqb-true h.number 0 (zero_is (h.number == HOP_BY_HOP) ((h.number == ROUTING) || (h.number == DESTINATION_OPTIONS) && list_any is_routing c) (h.number == FRAGMENT) (h.number == AUTHENTICATION) (eqb-true (rank h c) 0 s))))
      | inr s ↦ cond-false (rank h c == 0) (h ∷ of_rank 0 c) (of_rank 0 c) s ∙ no_first c a.1
    ]

no_zero_append : (c d : List ExtHeader) → NoZero c → NoZero d → NoZero (c ++ d)
no_zero_append [] d a b = b
no_zero_append (h ∷ c) d a b = (a.0, no_zero_append c d a.1 b)

no_zero_rest : (c : List ExtHeader) → NoZero (of_rank 1 c ++ of_rank 2 c ++ of_rank 3 c ++ of_rank 4 c)
no_zero_rest c =
    no_zero_append (of_rank 1 c ++ of_rank 2 c ++ of_rank 3 c) (of_rank 4 c) (no_zero_append (of_rank 1 c ++ of_rank 2 c) (of_rank 3 c) (no_zero_append (of_rank 1 c) (of_rank 2 c) (none_zero 1 c (λ e. omega (arith, e))) (none_zero 2 c (λ e. omega (arith, e)))) (none_zero 3 c (λ e. omega (arith, e)))) (none_zero 4 c (λ e. omega (arith, e)))

fewer : (c : List ExtHeader) → NoZero c → NoZero (drop 1 c)
fewer [] a = tt
fewer (h ∷ c) a = a.1

-- the headers after those of the rank 0
abbrev rest : List ExtHeader → List ExtHeader
rest c = of_rank 1 c ++ of_rank 2 c ++ of_rank 3 c ++ of_rank 4 c

split : (c : List ExtHeader) → in_order c ≡ of_rank 0 c ++ rest c
split c = simp append_assoc

pub zero_first : (c : List ExtHeader) → NoZero (drop 1 c) → NoZero (drop 1 (in_order c))
zero_first [] a = tt
zero_first (h ∷ c) a = subst (λ x. NoZero (drop 1 x)) (sym (split (h ∷ c))) (elim (cases_Bool (rank h c == 0)) [
  | inl s ↦ subst (λ x. NoZero (drop 1 (x ++ rest (h ∷ c)))) (sym (cond-true (rank h c == 0) (h ∷ of_rank 0 c) (of_rank 0 c) s ∙ ap (λ x. h ∷ x) (no_first c a))) (no_zero_rest (h ∷ c))
  | inr s ↦ subst (λ x. NoZero (drop 1 (x ++ rest (h ∷ c)))) (sym (cond-false (rank h c == 0) (h ∷ of_rank 0 c) (of_rank 0 c) s ∙ no_first c a)) (fewer (rest (h ∷ c)) (no_zero_rest (h ∷ c)))
])

-- The headers of the ranks below k are no longer than all.
pub bytes_joined : (c d : List ExtHeader) → length (bytes_of (c ++ d)) ≡ length (bytes_of c) + length (bytes_of d)
bytes_joined [] d = omega arith
bytes_joined (h ∷ c) d = omega (arith, bytes_joined c d, length-append h.bytes (bytes_of (c ++ d)), length-append h.bytes (bytes_of c))

below_less : (k n e : ℕ) (c : List ExtHeader) → k ≤ n → length (bytes_of (below_rank k e c)) ≤ length (bytes_of (below_rank n e c))
below_less k zero e c within = let same : k ≡ 0 = omega (arith, within) in rw same (omega arith)
below_less k (suc n) e c within = elim (cases_Bool (nat_le k n)) [
  | inl s ↦ omega (arith, below_less k n e c (is_within k n s), bytes_joined (below_rank n e c) (of_rank_from n e 0 c))
  | inr s ↦ let same : k ≡ suc n = beyond k n within s in rw same (omega arith)
]
  where
    is_within : (k n : ℕ) → nat_le k n ≡ true → k ≤ n
    is_within k n s = grind (arith, common_steps)

    beyond : (k n : ℕ) → k ≤ suc n → nat_le k n ≡ false → k ≡ suc n
    beyond k n within s = grind (arith, common_steps)

pub next_fits : (k : ℕ) (c : List ExtHeader) → k < 5 → length (bytes_of (below_rank k (routing_index c) c ++ of_rank_from k (routing_index c) 0 c)) ≤ length (bytes_of c)
next_fits k c within = omega (arith, below_less (suc k) 5 (routing_index c) c (omega (arith, within)), ap (λ d. length (bytes_of d)) (below_is c), ordered_len c)

-- the first header of a higher rank
pub or_more : (o x y : Option ℕ) → option_or (option_or o x) y ≡ option_or o (option_or x y)
or_more None x y = refl
or_more (Some i) x y = refl

pub above_more : (k e i j : ℕ) (c : List ExtHeader) (h : ExtHeader) → j ≡ i + length c → first_above k e i (c ++ h ∷ []) ≡ option_or (first_above k e i c) (if nat_lt k (rank_at e j h) then Some j else None)
above_more k e i j [] h at = let same : j ≡ i = omega arith in ap (λ n. if nat_lt k (rank_at e n h) then Some n else None) (sym same)
above_more k e i j (g ∷ c) h at =
    let next : j ≡ i + 1 + length c = omega arith in
    ap (λ x. if nat_lt k (rank_at e i g) then Some i else x) (above_more k e (i + 1) j c h next) ∙ inside (nat_lt k (rank_at e i g)) (first_above k e (i + 1) c) (if nat_lt k (rank_at e j h) then Some j else None)
  where
    inside : (b : Bool) (x y : Option ℕ) → (if b then Some i else option_or x y) ≡ option_or (if b then Some i else x) y
    inside true x y = refl
    inside false x y = refl

above_is : (n e i : ℕ) (c : List ExtHeader) → RanksAgree e i c → unwrap_or (first_above (rank_of n false) e i c) (i + length c) ≡ i + recommended_index n c
above_is n e i [] a = refl
above_is n e i (h ∷ c) a =
    let step : i + length (h ∷ c) ≡ i + 1 + length c = omega arith in
    let next : i + 1 + recommended_index n c ≡ i + (recommended_index n c + 1) = omega arith in
    ap (λ r. unwrap_or (if nat_lt (rank_of n false) r then Some i else first_above (rank_of n false) e (i + 1) c) (i + length (h ∷ c))) a.0
    ∙ (ap (λ m. unwrap_or (if nat_lt (rank_of n false) (rank h c) then Some i else first_above (rank_of n false) e (i + 1) c) m) step
    ∙ choose (nat_lt (rank_of n false) (rank h c)) (above_is n e (i + 1) c a.1 ∙ next))
  where
    choose : (b : Bool) → unwrap_or (first_above (rank_of n false) e (i + 1) c) (i + 1 + length c) ≡ i + (recommended_index n c + 1)
        → unwrap_or (if b then Some i else first_above (rank_of n false) e (i + 1) c) (i + 1 + length c) ≡ i + (if b then 0 else recommended_index n c + 1)
    choose true f = omega arith
    choose false f = f

pub index_is : (n : ℕ) (c : List ExtHeader) → unwrap_or (first_above (rank_of n false) (routing_index c) 0 c) (length c) ≡ recommended_index n c
index_is n c =
    let size : length c ≡ 0 + length c = omega arith in
    ap (unwrap_or (first_above (rank_of n false) (routing_index c) 0 c)) size ∙ (above_is n (routing_index c) 0 c (agreed c) ∙ omega arith)

-- Hop-by-hop options stay the first header.
pub has_ordered : (o : Option ℕ) (c : List ExtHeader) → HasOption o c → HasOption o (in_order c)
has_ordered None c a = tt
has_ordered (Some k) [] a = a
has_ordered (Some k) (h ∷ c) a =
    let first : (rank h c == 0) ≡ true = rw (eqb-true h.number 0 a.0) refl in
    subst (HasOption (Some k)) (sym (split (h ∷ c) ∙ ap (λ x. x ++ rest (h ∷ c)) (cond-true (rank h c == 0) (h ∷ of_rank 0 c) (of_rank 0 c) first))) a
