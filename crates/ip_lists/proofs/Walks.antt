-- Walks through an array.
use Rattle.std.proofs.Common.{◌≡◌, ◌≢◌, ℕ, ◌<◌, ◌≤◌, List, [], ◌∷◌, Bool, true, false, length, get_or, refl, sym, ap, ◌∙◌, subst, suc, zero, arith, inl, inr, eqb, leb, eq-eqb, ◌-◌, ◌||◌, cond, ◌⊎◌}
use Rattle.std.specs.Prelude.{All, Option, Some, None, slice_get, ◌↔◌, ⊤}
use Rattle.std.specs.Option.{option_map_or}
use Rattle.std.specs.List.{list_any, IsDistinct}
use Rattle.std.proofs.lemmas.Bool.{cases_lt, le-leb, lt-leb, ne_eqb, false≢true}
use Rattle.std.proofs.lemmas.Bool.Decides.{eqb_tells}
use Rattle.std.proofs.lemmas.List.{get_or_default}
use Rattle.std.proofs.lemmas.Option.{none-some, slice_get-get_or, slice_get_within}
use Rattle.std.proofs.lemmas.List.Elements.{All-nil, All-cons}
use Rattle.std.proofs.lemmas.Map.Keys.{IsDistinct-from_apart}
use Rattle.std.proofs.lemmas.Map.Steps.{length-le_from_distinct_below}
use Rattle.ip_lists.specs.Lists.{AreInverse, IsPath, IsList}
use Rattle.ip_lists.specs.Members.{members_after}
use Rattle.ip_lists.proofs.Lacking.{Lacks, lacks_cons}
use Rattle.ip_lists.proofs.Paths.{start_within}
use Rattle.ip_lists.proofs.ListLemmas.{few}

-- the rest of a walk from this place, if there is one
abbrev rest_at : List ℕ → ℕ → ℕ → Option ℕ → List ℕ
rest_at next head n o = option_map_or (λ (p : ℕ). cond (eqb p head || leb (length next) p) [] (p ∷ members_after next head p n)) o []

-- The equations of a walk.
nowhere : (next : List ℕ) (head from n : ℕ) → slice_get next from ≡ None → members_after next head from (suc n) ≡ []
nowhere next head from n none = ap (rest_at next head n) none

at_head : (next : List ℕ) (head from n : ℕ) → slice_get next from ≡ Some head → members_after next head from (suc n) ≡ []
at_head next head from n there =
    ap (rest_at next head n) there
    ∙ ap (λ (t : Bool). cond (t || leb (length next) head) [] (head ∷ members_after next head head n)) (eq-eqb head head refl)

beyond : (next : List ℕ) (head from n p : ℕ) → slice_get next from ≡ Some p → p ≢ head → length next ≤ p → members_after next head from (suc n) ≡ []
beyond next head from n p there other past =
    ap (rest_at next head n) there
    ∙ (ap (λ (t : Bool). cond (t || leb (length next) p) [] (p ∷ members_after next head p n)) (ne_eqb p head other)
    ∙ ap (λ (t : Bool). cond t [] (p ∷ members_after next head p n)) (le-leb (length next) p past))

goes_on : (next : List ℕ) (head from n p : ℕ) → slice_get next from ≡ Some p → p ≢ head → p < length next → members_after next head from (suc n) ≡ p ∷ members_after next head p n
goes_on next head from n p there other within =
    ap (rest_at next head n) there
    ∙ (ap (λ (t : Bool). cond (t || leb (length next) p) [] (p ∷ members_after next head p n)) (ne_eqb p head other)
    ∙ ap (λ (t : Bool). cond t [] (p ∷ members_after next head p n)) (lt-leb (length next) p within))

-- A walk along a path returns its places.
pub along : (next : List ℕ) (from end n : ℕ) (xs : List ℕ) → length xs ≤ n → IsPath next from xs end → members_after next end from n ≡ xs
along next from end zero [] fits path = refl
along next from end (suc n) [] fits path = at_head next end from n path
along next from end zero (x ∷ xs) fits path = absurd (omega arith)
along next from end (suc n) (x ∷ xs) fits path = goes_on next end from n x path.0 path.1 (start_within next x end xs path.2) ∙ ap (λ (ys : List ℕ). x ∷ ys) (along next x end n xs (omega arith) path.2)

pub along_list : (next : List ℕ) (h : ℕ) (xs : List ℕ) → IsList next h xs → members_after next h h (length next) ≡ xs
along_list next h xs list = along next h h (length next) xs (let less : length xs < length next = few next h h xs list in omega arith) list

-- The places come one after another.
abbrev IsChain : List ℕ → ℕ → List ℕ → Type 0
IsChain next from [] = ⊤
IsChain next from (x ∷ xs) = (slice_get next from ≡ Some x) × IsChain next x xs

-- A walk that doesn't come to the head has as many places as it may have.
record IsWalk (next : List ℕ) (head from n : ℕ) (xs : List ℕ) : Type 0 where
  chain : IsChain next from xs
  lacks : Lacks xs head
  ends : IsPath next from xs head ⊎ (length xs ≡ n)

walked : (next previous : List ℕ) → AreInverse next previous → (head from n : ℕ) → from < length next → IsWalk next head from n (members_after next head from n)
walked next previous linked head from zero within = record { chain = tt; lacks = λ c. absurd (omega arith); ends = inr refl }
walked next previous linked head from (suc n) within =
    let p = get_or next from 0 in
    let there : slice_get next from ≡ Some p = slice_get-get_or next from 0 within in
    let back : slice_get previous p ≡ Some from = linked.back from p there in
    let inside : p < length next = (let in_previous : p < length previous = slice_get_within previous p from back in let same : length previous ≡ length next = linked.as_many in omega arith) in
    elim (eqb_tells p head) [
      | inl stop ↦
          let to_head : slice_get next from ≡ Some head = there ∙ ap Some stop.1 in
          let P : List ℕ → Type 0 = λ xs. IsWalk next head from (suc n) xs in
          subst P (sym (at_head next head from n to_head)) (record { chain = tt; lacks = λ c. absurd (omega arith); ends = inl to_head })
      | inr other ↦
          let rest = walked next previous linked head p n inside in
          let P : List ℕ → Type 0 = λ xs. IsWalk next head from (suc n) xs in
          subst P (sym (goes_on next head from n p there other.1 inside)) (record {
            chain = (there, rest.chain);
            lacks = lacks_cons p head (members_after next head p n) other.1 rest.lacks;
            ends = elim rest.ends [ inl path ↦ inl (there, other.1, path) | inr full ↦ inr (ap suc full) ];
          })
    ]

chain_at : (next : List ℕ) (from d : ℕ) (xs : List ℕ) → IsChain next from xs → (i : ℕ) → i < length xs → slice_get next (get_or (from ∷ xs) i d) ≡ Some (get_or (from ∷ xs) (suc i) d)
chain_at next from d [] chain i within = absurd (omega arith)
chain_at next from d (x ∷ xs) chain zero within = chain.0
chain_at next from d (x ∷ xs) chain (suc i) within = chain_at next x d xs chain.1 i (omega arith)

-- A chain that doesn't come back to its start comes back to no place.
chain_apart : (next previous : List ℕ) → AreInverse next previous → (from d : ℕ) (xs : List ℕ) → IsChain next from xs → Lacks xs from
    → (i j : ℕ) → i < j → j < length (from ∷ xs) → get_or (from ∷ xs) i d ≢ get_or (from ∷ xs) j d
chain_apart next previous linked from d xs chain none zero zero less within = absurd (omega arith)
chain_apart next previous linked from d xs chain none zero (suc j) less within =
    let inside : j < length xs = omega arith in
    λ same. none (j, inside, get_or_default xs j from d inside ∙ sym same)
chain_apart next previous linked from d xs chain none (suc i) zero less within = absurd (omega arith)
chain_apart next previous linked from d xs chain none (suc i) (suc j) less within = λ same.
    let back_i : slice_get previous (get_or (from ∷ xs) (suc i) d) ≡ Some (get_or (from ∷ xs) i d) = linked.back _ _ (chain_at next from d xs chain i (omega arith)) in
    let back_j : slice_get previous (get_or (from ∷ xs) (suc j) d) ≡ Some (get_or (from ∷ xs) j d) = linked.back _ _ (chain_at next from d xs chain j (omega arith)) in
    chain_apart next previous linked from d xs chain none i j (omega arith) (omega arith) (cc)

chain_within : (next previous : List ℕ) → AreInverse next previous → (from q : ℕ) (xs : List ℕ) → from < length next → IsChain next from xs → list_any (eqb q) (from ∷ xs) ≡ true → q < length next
chain_within next previous linked from q [] within chain any =
    elim (eqb_tells q from) [
      | inl same ↦ (let is : q ≡ from = same.1 in omega arith)
      | inr other ↦ absurd (false≢true (sym (ap (λ (t : Bool). t || false) other.0) ∙ any))
    ]
chain_within next previous linked from q (x ∷ xs) within chain any =
    let back : slice_get previous x ≡ Some from = linked.back from x chain.0 in
    let inside : x < length next = (let in_previous : x < length previous = slice_get_within previous x from back in let same : length previous ≡ length next = linked.as_many in omega arith) in
    elim (eqb_tells q from) [
      | inl same ↦ (let is : q ≡ from = same.1 in omega arith)
      | inr other ↦ chain_within next previous linked x q xs inside chain.1 (sym (ap (λ (t : Bool). t || list_any (eqb q) (x ∷ xs)) other.0) ∙ any)
    ]

chain_few : (next previous : List ℕ) → AreInverse next previous → (from : ℕ) (xs : List ℕ) → from < length next → IsChain next from xs → Lacks xs from → length xs < length next
chain_few next previous linked from xs within chain none =
    let apart_all : IsDistinct eqb (from ∷ xs) = IsDistinct-from_apart eqb (from ∷ xs) (λ i j d less inside. ne_eqb _ _ (chain_apart next previous linked from d xs chain none i j less inside)) in
    let bound : length (from ∷ xs) ≤ length next = length-le_from_distinct_below (from ∷ xs) (length next) apart_all (λ q any. chain_within next previous linked from q xs within chain any) in
    omega arith

-- In arrays that agree each place is the head of a list.
pub has_list : (next previous : List ℕ) → AreInverse next previous → (h : ℕ) → h < length next → IsList next h (members_after next h h (length next))
has_list next previous linked h within =
    let walk = walked next previous linked h h (length next) within in
    elim walk.ends [
      | inl path ↦ path
      | inr full ↦ absurd (let less : length (members_after next h h (length next)) < length next = chain_few next previous linked h (members_after next h h (length next)) within walk.chain walk.lacks in omega arith)
    ]

-- One call of an iterator.
pub step_some : (next : List ℕ) (head from n p : ℕ) (r : Option ℕ) → (n ≡ 0 → ⊥) → ((q : ℕ) → (r ≡ Some q) ↔ ((slice_get next from ≡ Some q) × (q ≢ head) × (q < length next))) → r ≡ Some p
    → members_after next head from n ≡ p ∷ members_after next head p (n - 1)
step_some next head from zero p r some link is = absurd (some refl)
step_some next head from (suc n) p r some link is =
    let there = (link p).0 is in
    let less : suc n - 1 ≡ n = omega arith in
    rw less (goes_on next head from n p there.0 there.1 there.2)

step_none_by : (next : List ℕ) (head from n : ℕ) (r o : Option ℕ) → slice_get next from ≡ o → ((q : ℕ) → (r ≡ Some q) ↔ ((slice_get next from ≡ Some q) × (q ≢ head) × (q < length next))) → r ≡ None
    → members_after next head from n ≡ []
step_none_by next head from zero r o there link is = refl
step_none_by next head from (suc n) r None there link is = nowhere next head from n there
step_none_by next head from (suc n) r (Some p) there link is = elim (eqb_tells p head) [
  | inl same ↦ at_head next head from n (there ∙ ap Some same.1)
  | inr other ↦ elim (cases_lt p (length next)) [
    | inl within ↦ absurd (let some : r ≡ Some p = (link p).1 (there, other.1, within) in none-some p (sym is ∙ some))
    | inr past ↦ beyond next head from n p there other.1 past
  ]
]

pub step_none : (next : List ℕ) (head from n : ℕ) (r : Option ℕ) → ((q : ℕ) → (r ≡ Some q) ↔ ((slice_get next from ≡ Some q) × (q ≢ head) × (q < length next))) → r ≡ None
    → members_after next head from n ≡ []
step_none next head from n r link is = step_none_by next head from n r (slice_get next from) refl link is

-- A walk has at most as many places as it may have, and each is one of the array.
few_cond : (t : Bool) (p n : ℕ) (xs : List ℕ) → length xs ≤ n → length (cond t [] (p ∷ xs)) ≤ suc n
few_cond true p n xs fits = omega arith
few_cond false p n xs fits = omega arith

few_rest : (next : List ℕ) (head n : ℕ) (o : Option ℕ) → ((p : ℕ) → length (members_after next head p n) ≤ n) → length (rest_at next head n o) ≤ suc n
few_rest next head n None fits = omega arith
few_rest next head n (Some p) fits = few_cond (eqb p head || leb (length next) p) p n (members_after next head p n) (fits p)

pub few_after : (next : List ℕ) (head from n : ℕ) → length (members_after next head from n) ≤ n
few_after next head from zero = omega arith
few_after next head from (suc n) = few_rest next head n (slice_get next from) (λ p. few_after next head p n)

within_cond : (m p : ℕ) (t : Bool) (xs : List ℕ) → All (λ q. q < m) xs → All (λ q. q < m) (cond (t || leb m p) [] (p ∷ xs))
within_cond m p true xs all = All-nil (λ q. q < m)
within_cond m p false xs all = elim (cases_lt p m) [
  | inl less ↦ (let P : Bool → Type 0 = λ u. All (λ q. q < m) (cond u [] (p ∷ xs)) in subst P (sym (lt-leb m p less)) (All-cons (λ q. q < m) p xs less all))
  | inr past ↦ (let P : Bool → Type 0 = λ u. All (λ q. q < m) (cond u [] (p ∷ xs)) in subst P (sym (le-leb m p past)) (All-nil (λ q. q < m)))
]

within_rest : (next : List ℕ) (head n : ℕ) (o : Option ℕ) → ((p : ℕ) → All (λ q. q < length next) (members_after next head p n)) → All (λ q. q < length next) (rest_at next head n o)
within_rest next head n None all = All-nil (λ q. q < length next)
within_rest next head n (Some p) all = within_cond (length next) p (eqb p head) (members_after next head p n) (all p)

pub within_after : (next : List ℕ) (head from n : ℕ) → All (λ q. q < length next) (members_after next head from n)
within_after next head from zero = All-nil (λ q. q < length next)
within_after next head from (suc n) = within_rest next head n (slice_get next from) (λ p. within_after next head p n)
