-- The order that is recommended is one: what is put in order is in order, and stays as it is.
use Rattle.ip_spec.proofs.Common.{◌≡◌, ◌↔◌, ℕ, ◌+◌, ◌≤◌, ◌<◌, List, [], ◌∷◌, ◌++◌, take, drop, take-append-drop, inl, inr, subst, refl, sym, ◌∙◌, ap, arith, common_steps, Bool, true, false, false≢true, cases_Bool, eqb-true, eq-eqb, cond-true, cond-false, ◌&&◌, ◌||◌, ◌==◌, nat_lt, nat_le, list_any, append_assoc, AllByRecursion, ExtHeader}
use Rattle.std.proofs.Common.{add-one}
use Rattle.std.proofs.lemmas.List.Folds.{list_any-append}
use Rattle.ip_rewrite.specs.Headers.{linked_headers}
use Rattle.ip_rewrite.specs.Order.{is_routing, rank_of, rank, of_rank, in_order, rises_from, is_in_order, recommended_index}
use Rattle.ip_rewrite.specs.Insertion.{inserted}
use Rattle.ip_rewrite.proofs.OrderLemmas.{first_at, cases_rank}

-- what the rank says of the number
record IsRanked (n : ℕ) (b : Bool) (k : ℕ) : Type 0 where
  options : k ≡ 0 → n ≡ 0
  fragment : k ≡ 2 → n ≡ 44
  authentication : k ≡ 3 → n ≡ 51
  routing : (n == 43) ≡ true → k ≡ 1
  before : k ≡ 1 → ((n == 43) || b) ≡ true
  last : k ≡ 4 → rank_of n false ≡ 4

ranked : (n : ℕ) (b : Bool) → IsRanked n b (rank_of n b)
ranked n b = record {
  options = λ e. options n b e;
  fragment = λ e. fragment n b e;
  authentication = λ e. authentication n b e;
  routing = λ e. rw (eqb-true n 43 e) refl;
  before = λ e. before n b e;
  last = λ e. last n b e;
}
  where
    options : (n : ℕ) (b : Bool) → rank_of n b ≡ 0 → n ≡ 0
    options n b e = grind (arith, common_steps)

    fragment : (n : ℕ) (b : Bool) → rank_of n b ≡ 2 → n ≡ 44
    fragment n b e = grind (arith, common_steps)

    authentication : (n : ℕ) (b : Bool) → rank_of n b ≡ 3 → n ≡ 51
    authentication n b e = grind (arith, common_steps)

    before : (n : ℕ) (b : Bool) → rank_of n b ≡ 1 → ((n == 43) || b) ≡ true
    before n b e = grind (arith, common_steps)

    last : (n : ℕ) (b : Bool) → rank_of n b ≡ 4 → rank_of n false ≡ 4
    last n b e = grind (arith, common_steps)

-- all headers of a rank
of_rank_all : (P : ExtHeader → Type 0) (k : ℕ) (c : List ExtHeader) → ((h : ExtHeader) (b : Bool) → rank_of h.number b ≡ k → P h) → AllByRecursion P (of_rank k c)
of_rank_all P k [] f = tt
of_rank_all P k (h ∷ c) f = elim (cases_Bool (rank h c == k)) [
  | inl s ↦ subst (AllByRecursion P) (sym (cond-true (rank h c == k) (h ∷ of_rank k c) (of_rank k c) s)) (f h (list_any is_routing c) (eqb-true (rank h c) k s), of_rank_all P k c f)
  | inr s ↦ subst (AllByRecursion P) (sym (cond-false (rank h c == k) (h ∷ of_rank k c) (of_rank k c) s)) (of_rank_all P k c f)
]

lower_test : (j k r : ℕ) → j ≤ k → nat_le k r ≡ true → nat_le j r ≡ true
lower_test j k r within e = grind (arith, common_steps)

both : (a b : Bool) → (a && b) ≡ true → (a ≡ true) × (b ≡ true)
both true b e = (refl, e)
both false b e = absurd (false≢true e)

lower : (j k : ℕ) (c : List ExtHeader) → j ≤ k → rises_from k c ≡ true → rises_from j c ≡ true
lower j k [] within e = refl
lower j k (h ∷ c) within e =
    let parts = both (nat_le k (rank h c)) (rises_from (rank h c) c) e in
    rw (lower_test j k (rank h c) within parts.0, parts.1) refl

same_le : (k : ℕ) → nat_le k k ≡ true
same_le k = grind (arith, common_steps)

-- headers of one number, which alone says the rank, before others
rises_number : (k n : ℕ) (c d : List ExtHeader) → ((b : Bool) → rank_of n b ≡ k) → AllByRecursion (λ h. h.number ≡ n) c → rises_from k d ≡ true → rises_from k (c ++ d) ≡ true
rises_number k n [] d f a e = e
rises_number k n (h ∷ c) d f a e =
    let here : rank h (c ++ d) ≡ k = ap (λ m. rank_of m (list_any is_routing (c ++ d))) a.0 ∙ f (list_any is_routing (c ++ d)) in
    ap (λ r. nat_le k r && rises_from r (c ++ d)) here ∙ (ap (λ b. b && rises_from k (c ++ d)) (same_le k) ∙ rises_number k n c d f a.1 e)

-- routing headers all have the rank 1
routing_rank : (c : List ExtHeader) → list_any is_routing (of_rank 1 c) ≡ list_any is_routing c
routing_rank [] = refl
routing_rank (h ∷ c) = elim (cases_Bool (rank h c == 1)) [
  | inl s ↦ ap (list_any is_routing) (cond-true (rank h c == 1) (h ∷ of_rank 1 c) (of_rank 1 c) s) ∙ ap (λ b. is_routing h || b) (routing_rank c)
  | inr s ↦ ap (list_any is_routing) (cond-false (rank h c == 1) (h ∷ of_rank 1 c) (of_rank 1 c) s) ∙ (routing_rank c ∙ ap (λ b. b || list_any is_routing c) (sym (other (is_routing h) (rank h c) s (λ e. (ranked h.number (list_any is_routing c)).routing e))))
]
  where
    other : (r : Bool) (k : ℕ) → (k == 1) ≡ false → (r ≡ true → k ≡ 1) → r ≡ false
    other true k s f = absurd (false≢true (sym s ∙ eq-eqb k 1 (f refl)))
    other false k s f = refl

rises_routing : (c d : List ExtHeader) → rises_from 1 d ≡ true → rises_from 1 (of_rank 1 c ++ d) ≡ true
rises_routing [] d e = e
rises_routing (h ∷ c) d e = elim (cases_Bool (rank h c == 1)) [
  | inl s ↦
      let x : List ExtHeader = of_rank 1 c ++ d in
      let follows : (is_routing h || list_any is_routing x) ≡ true =
      ap (λ b. is_routing h || b) (list_any-append is_routing (of_rank 1 c) d) ∙ (ap (λ b. is_routing h || (b || list_any is_routing d)) (routing_rank c)
      ∙ some (is_routing h) (list_any is_routing c) (list_any is_routing d) ((ranked h.number (list_any is_routing c)).before (eqb-true (rank h c) 1 s))) in
      let here : rank h x ≡ 1 = stays h.number (list_any is_routing c) (list_any is_routing x) (eqb-true (rank h c) 1 s) follows in
      ap (λ y. rises_from 1 (y ++ d)) (cond-true (rank h c == 1) (h ∷ of_rank 1 c) (of_rank 1 c) s) ∙ (ap (λ r. nat_le 1 r && rises_from r x) here ∙ rises_routing c d e)
  | inr s ↦ ap (λ y. rises_from 1 (y ++ d)) (cond-false (rank h c == 1) (h ∷ of_rank 1 c) (of_rank 1 c) s) ∙ rises_routing c d e
]
  where
    some : (r a b : Bool) → (r || a) ≡ true → (r || (a || b)) ≡ true
    some true a b e = refl
    some false true b e = refl
    some false false b e = absurd (false≢true e)

    stays : (n : ℕ) (a b : Bool) → rank_of n a ≡ 1 → ((n == 43) || b) ≡ true → rank_of n b ≡ 1
    stays n a true e f = grind (arith, common_steps)
    stays n a false e f = grind (arith, common_steps)

-- no routing header has the rank 4
rises_last : (c : List ExtHeader) → AllByRecursion (λ h. rank_of h.number false ≡ 4) c → (list_any is_routing c ≡ false) × (rises_from 4 c ≡ true)
rises_last [] a = (refl, refl)
rises_last (h ∷ c) a =
    let rest = rises_last c a.1 in
    let here : rank h c ≡ 4 = ap (rank_of h.number) rest.0 ∙ a.0 in
    (none (is_routing h) (list_any is_routing c) (λ e. (ranked h.number false).routing e) rest.0 a.0, ap (λ r. nat_le 4 r && rises_from r c) here ∙ rest.1)
  where
    none : (r b : Bool) → (r ≡ true → rank_of h.number false ≡ 1) → b ≡ false → rank_of h.number false ≡ 4 → (r || b) ≡ false
    none true b f e is = absurd (omega (arith, f refl, is))
    none false b f e is = e

pub in_order_rises : (c : List ExtHeader) → is_in_order (in_order c) ≡ true
in_order_rises c =
    let a : List ExtHeader = of_rank 0 c in
    let b : List ExtHeader = of_rank 1 c in
    let d : List ExtHeader = of_rank 2 c in
    let e : List ExtHeader = of_rank 3 c in
    let f : List ExtHeader = of_rank 4 c in
    let split : in_order c ≡ a ++ (b ++ (d ++ (e ++ f))) = simp append_assoc in
    let last = rises_last f (of_rank_all (λ h. rank_of h.number false ≡ 4) 4 c (λ h x is. (ranked h.number x).last is)) in
    let third : rises_from 3 (e ++ f) ≡ true = rises_number 3 51 e f (λ x. refl) (of_rank_all (λ h. h.number ≡ 51) 3 c (λ h x is. (ranked h.number x).authentication is)) (lower 3 4 f (omega arith) last.1) in
    let after_routing : rises_from 2 (d ++ (e ++ f)) ≡ true = rises_number 2 44 d (e ++ f) (λ x. refl) (of_rank_all (λ h. h.number ≡ 44) 2 c (λ h x is. (ranked h.number x).fragment is)) (lower 2 3 (e ++ f) (omega arith) third) in
    let routing : rises_from 1 (b ++ (d ++ (e ++ f))) ≡ true = rises_routing c (d ++ (e ++ f)) (lower 1 2 (d ++ (e ++ f)) (omega arith) after_routing) in
    ap is_in_order split ∙ rises_number 0 0 a (b ++ (d ++ (e ++ f))) (λ x. refl) (of_rank_all (λ h. h.number ≡ 0) 0 c (λ h x is. (ranked h.number x).options is)) (lower 0 1 (b ++ (d ++ (e ++ f))) (omega arith) routing)

-- what is in order stays as it is
none_below : (j k : ℕ) (c : List ExtHeader) → j < k → rises_from k c ≡ true → of_rank j c ≡ []
none_below j k [] within e = refl
none_below j k (h ∷ c) within e =
    let parts = both (nat_le k (rank h c)) (rises_from (rank h c) c) e in
    let higher : j < rank h c = above j k (rank h c) within parts.0 in
    cond-false (rank h c == j) (h ∷ of_rank j c) (of_rank j c) (other j (rank h c) higher) ∙ none_below j (rank h c) c higher parts.1
  where
    above : (j k r : ℕ) → j < k → nat_le k r ≡ true → j < r
    above j k r within e = grind (arith, common_steps)

    other : (j r : ℕ) → j < r → (r == j) ≡ false
    other j r within = grind (arith, common_steps)

pub in_order_same : (k : ℕ) (c : List ExtHeader) → rises_from k c ≡ true → in_order c ≡ c
in_order_same k [] e = refl
in_order_same k (h ∷ c) e =
    let rest : rises_from (rank h c) c ≡ true = (both (nat_le k (rank h c)) (rises_from (rank h c) c) e).1 in
    let same : in_order c ≡ c = in_order_same (rank h c) c rest in
    let none : (j : ℕ) → j < rank h c → of_rank j c ≡ [] = λ j within. none_below j (rank h c) c within rest in
    elim (cases_rank h c) [
      | inl is ↦ first_at 0 h c is ∙ ap (λ x. h ∷ x) same
      | inr others ↦ elim others [
        | inl is ↦
            let zero_none : of_rank 0 c ≡ [] = none 0 (omega (arith, is)) in
            first_at 1 h c is ∙ (ap (λ x. x ++ (h ∷ of_rank 1 c) ++ of_rank 2 c ++ of_rank 3 c ++ of_rank 4 c) zero_none
            ∙ ap (λ x. h ∷ x) (ap (λ x. x ++ of_rank 1 c ++ of_rank 2 c ++ of_rank 3 c ++ of_rank 4 c) (sym zero_none) ∙ same))
        | inr others ↦ elim others [
          | inl is ↦
              let zero_none : of_rank 0 c ≡ [] = none 0 (omega (arith, is)) in
              let one_none : of_rank 1 c ≡ [] = none 1 (omega (arith, is)) in
              first_at 2 h c is ∙ (ap (λ x. x ++ of_rank 1 c ++ (h ∷ of_rank 2 c) ++ of_rank 3 c ++ of_rank 4 c) zero_none ∙ (ap (λ x. x ++ (h ∷ of_rank 2 c) ++ of_rank 3 c ++ of_rank 4 c) one_none
              ∙ ap (λ x. h ∷ x) (ap (λ x. x ++ of_rank 2 c ++ of_rank 3 c ++ of_rank 4 c) (sym one_none) ∙ (ap (λ x. x ++ of_rank 1 c ++ of_rank 2 c ++ of_rank 3 c ++ of_rank 4 c) (sym zero_none) ∙ same))))
          | inr others ↦ elim others [
            | inl is ↦
                let zero_none : of_rank 0 c ≡ [] = none 0 (omega (arith, is)) in
                let one_none : of_rank 1 c ≡ [] = none 1 (omega (arith, is)) in
                let two_none : of_rank 2 c ≡ [] = none 2 (omega (arith, is)) in
                first_at 3 h c is ∙ (rw (zero_none, one_none, two_none) refl ∙ ap (λ x. h ∷ x) (rw (zero_none, one_none, two_none) at same))
            | inr is ↦
                let zero_none : of_rank 0 c ≡ [] = none 0 (omega (arith, is)) in
                let one_none : of_rank 1 c ≡ [] = none 1 (omega (arith, is)) in
                let two_none : of_rank 2 c ≡ [] = none 2 (omega (arith, is)) in
                let three_none : of_rank 3 c ≡ [] = none 3 (omega (arith, is)) in
                first_at 4 h c is ∙ (rw (zero_none, one_none, two_none, three_none) refl ∙ ap (λ x. h ∷ x) (rw (zero_none, one_none, two_none, three_none) at same))
          ]
        ]
      ]
    ]

-- linking changes no number
linked_routing : (m : ℕ) (c : List ExtHeader) → list_any is_routing (linked_headers m c) ≡ list_any is_routing c
linked_routing m [] = refl
linked_routing m (h ∷ c) = ap (λ b. is_routing h || b) (linked_routing m c)

pub order_stays : (r : Bool) (c : List ExtHeader) → r ≡ is_in_order c → r ≡ true ↔ (in_order c ≡ c)
order_stays r c is = (λ e. in_order_same 0 c (sym is ∙ e), λ e. is ∙ (ap is_in_order (sym e) ∙ in_order_rises c))

pub linked_rises : (k m : ℕ) (c : List ExtHeader) → rises_from k (linked_headers m c) ≡ rises_from k c
linked_rises k m [] = refl
linked_rises k m (h ∷ c) =
    ap (λ b. nat_le k (rank_of h.number b) && rises_from (rank_of h.number b) (linked_headers m c)) (linked_routing m c) ∙ ap (λ b. nat_le k (rank h c) && b) (linked_rises (rank h c) m c)

-- one more header at the index that is recommended
less_is : (a b : ℕ) → nat_lt a b ≡ true → a < b
less_is a b e = grind (arith, common_steps)

not_less_is : (a b : ℕ) → nat_lt a b ≡ false → b ≤ a
not_less_is a b e = grind (arith, common_steps)

le_test : (a b : ℕ) → a ≤ b → nat_le a b ≡ true
le_test a b within = grind (arith, common_steps)

rank_most : (h : ExtHeader) (c : List ExtHeader) → rank h c ≤ 4
rank_most h c = elim (cases_rank h c) [
  | inl is ↦ omega (arith, is)
  | inr others ↦ elim others [
    | inl is ↦ omega (arith, is)
    | inr others ↦ elim others [
      | inl is ↦ omega (arith, is)
      | inr others ↦ elim others [
        | inl is ↦ omega (arith, is)
        | inr is ↦ omega (arith, is)
      ]
    ]
  ]
]

steady : (n : ℕ) (b : Bool) → rank_of n false < 4 → rank_of n b ≡ rank_of n false
steady n true less = grind (arith, common_steps)
steady n false less = refl

-- a routing header that is inserted later changes no rank up to its own
steady_before : (n : ℕ) (a b : Bool) → (a ≡ true → rank_of n b ≤ 1) → rank_of n (a || b) ≡ rank_of n b
steady_before n true true f = refl
steady_before n true false f = sym (first n (f refl))
  where
    first : (n : ℕ) → rank_of n false ≤ 1 → rank_of n false ≡ rank_of n true
    first n e = grind (arith, common_steps)
steady_before n false b f = refl

routing_inserted : (i : ℕ) (h : ExtHeader) (c : List ExtHeader) → list_any is_routing (inserted i h c) ≡ (is_routing h || list_any is_routing c)
routing_inserted i h c =
    list_any-append is_routing (take i c) (h ∷ drop i c) ∙ (swap (list_any is_routing (take i c)) (is_routing h) (list_any is_routing (drop i c))
    ∙ ap (λ b. is_routing h || b) (sym (list_any-append is_routing (take i c) (drop i c)) ∙ ap (list_any is_routing) (take-append-drop i c)))
  where
    swap : (a b d : Bool) → (a || (b || d)) ≡ (b || (a || d))
    swap true true d = refl
    swap true false d = refl
    swap false b d = refl

inserted_later : (i : ℕ) (h g : ExtHeader) (c : List ExtHeader) → inserted (i + 1) h (g ∷ c) ≡ g ∷ inserted i h c
inserted_later i h g c = ap (λ n. inserted n h (g ∷ c)) (add-one i)

pub insertion_rises : (k : ℕ) (h : ExtHeader) (c : List ExtHeader) → k ≤ rank_of h.number false → rises_from k c ≡ true → rises_from k (inserted (recommended_index h.number c) h c) ≡ true
insertion_rises k h [] within e = rw (le_test k (rank_of h.number false) within) refl
insertion_rises k h (g ∷ c) within e =
    let n : ℕ = h.number in
    let r : ℕ = rank_of n false in
    let s : ℕ = rank g c in
    let i : ℕ = recommended_index n c in
    let parts = both (nat_le k s) (rises_from s c) e in
    elim (cases_Bool (nat_lt r s)) [
      | inl less ↦
          let below : r < s = less_is r s less in
          let same : rank h (g ∷ c) ≡ r = steady n (list_any is_routing (g ∷ c)) (omega (arith, below, rank_most g c)) in
          let first : nat_le k (rank h (g ∷ c)) ≡ true = ap (nat_le k) same ∙ le_test k r within in
          let second_rises : nat_le (rank h (g ∷ c)) s ≡ true = ap (λ q. nat_le q s) same ∙ le_test r s (omega (arith, below)) in
          ap (λ j. rises_from k (inserted j h (g ∷ c))) (cond-true (nat_lt r s) 0 (i + 1) less) ∙ (ap (λ b. b && (nat_le (rank h (g ∷ c)) s && rises_from s c)) first ∙ (ap (λ b. b && rises_from s c) second_rises ∙ parts.1))
      | inr least ↦
          let above : s ≤ r = not_less_is r s least in
          let same : rank g (inserted i h c) ≡ s = ap (rank_of g.number) (routing_inserted i h c) ∙ steady_before g.number (is_routing h) (list_any is_routing c) (λ routing. omega (arith, above, (ranked n false).routing routing)) in
          ap (λ j. rises_from k (inserted j h (g ∷ c))) (cond-false (nat_lt r s) 0 (i + 1) least) ∙ (ap (rises_from k) (inserted_later i h g c)
          ∙ (ap (λ q. nat_le k q && rises_from q (inserted i h c)) same ∙ (ap (λ b. b && rises_from s (inserted i h c)) parts.0 ∙ insertion_rises s h c above parts.1)))
    ]
