-- What holds of all lists.
use Rattle.std.proofs.Common.{◌≡◌, ◌≢◌, ℕ, ◌<◌, ◌≤◌, List, [], ◌∷◌, Bool, true, false, length, get_or, sym, ap, ◌∙◌, subst, suc, zero, arith, inl, inr, eqb, ◌||◌}
use Rattle.std.specs.Prelude.{All, Contains, AllPairs}
use Rattle.std.specs.List.{list_any, IsDistinct}
use Rattle.std.proofs.lemmas.Bool.{ne_eqb, false≢true}
use Rattle.std.proofs.lemmas.Bool.Decides.{eqb_tells}
use Rattle.std.proofs.lemmas.List.{get_or_default}
use Rattle.std.proofs.lemmas.List.Elements.{All-cons, All-nil}
use Rattle.std.proofs.lemmas.Map.Keys.{IsDistinct-from_apart}
use Rattle.std.proofs.lemmas.Map.Steps.{length-le_from_distinct_below}
use Rattle.ip_lists.specs.Lists.{IsPath, IsList}
use Rattle.ip_lists.proofs.Lacking.{Lacks, lacks_head, lacks_tail}
use Rattle.ip_lists.proofs.Paths.{same_next, start_within, lacks_start, rest_of}

-- Two elements of a list whose first element isn't among the others.
apart : (x : ℕ) (xs : List ℕ) → Lacks xs x → AllPairs (λ a b. a ≢ b) xs → (i j : ℕ) (d : ℕ) → i < j → j < length (x ∷ xs) → get_or (x ∷ xs) i d ≢ get_or (x ∷ xs) j d
apart x xs none rest zero zero d less within = absurd (omega arith)
apart x xs none rest zero (suc j) d less within =
    let inside : j < length xs = omega arith in
    λ same. none (j, inside, get_or_default xs j x d inside ∙ sym same)
apart x xs none rest (suc i) zero d less within = absurd (omega arith)
apart x xs none rest (suc i) (suc j) d less within = rest i j d (omega arith) (omega arith)

pub distinct : (next : List ℕ) (from end : ℕ) (xs : List ℕ) → IsPath next from xs end → AllPairs (λ a b. a ≢ b) xs
distinct next from end [] path = λ i j d less within. absurd (omega arith)
distinct next from end (x ∷ xs) path = apart x xs (lacks_start next x end xs path.2) (distinct next x end xs path.2)

-- Each place on a path is a place of the array.
any_within : (next : List ℕ) (from end q : ℕ) (xs : List ℕ) → IsPath next from xs end → list_any (eqb q) (from ∷ xs) ≡ true → q < length next
any_within next from end q [] path any =
    let within : from < length next = start_within next from end [] path in
    elim (eqb_tells q from) [
      | inl same ↦ (let is : q ≡ from = same.1 in omega arith)
      | inr other ↦ absurd (false≢true (sym (ap (λ (t : Bool). t || false) other.0) ∙ any))
    ]
any_within next from end q (x ∷ xs) path any =
    let within : from < length next = start_within next from end (x ∷ xs) path in
    elim (eqb_tells q from) [
      | inl same ↦ (let is : q ≡ from = same.1 in omega arith)
      | inr other ↦ any_within next x end q xs path.2 (sym (ap (λ (t : Bool). t || list_any (eqb q) (x ∷ xs)) other.0) ∙ any)
    ]

pub all_within : (next : List ℕ) (from end : ℕ) (xs : List ℕ) → IsPath next from xs end → All (λ p. p < length next) (from ∷ xs)
all_within next from end [] path = All-cons (λ p. p < length next) from [] (start_within next from end [] path) (All-nil (λ p. p < length next))
all_within next from end (x ∷ xs) path = All-cons (λ p. p < length next) from (x ∷ xs) (start_within next from end (x ∷ xs) path) (all_within next x end xs path.2)

pub few : (next : List ℕ) (from end : ℕ) (xs : List ℕ) → IsPath next from xs end → length xs < length next
few next from end xs path =
    let all : AllPairs (λ a b. a ≢ b) (from ∷ xs) = apart from xs (lacks_start next from end xs path) (distinct next from end xs path) in
    let apart_all : IsDistinct eqb (from ∷ xs) = IsDistinct-from_apart eqb (from ∷ xs) (λ i j d less within. ne_eqb _ _ (all i j d less within)) in
    let bound : length (from ∷ xs) ≤ length next = length-le_from_distinct_below (from ∷ xs) (length next) apart_all (λ q any. any_within next from end q xs path any) in
    omega arith

-- Paths from one place to two heads, which aren't on them.
no_two_ends : (next : List ℕ) (p h k : ℕ) (xs ys : List ℕ) → h ≢ k → IsPath next p xs h → IsPath next p ys k → Lacks xs k → Lacks ys h → ⊥
no_two_ends next p h k [] [] other to_h to_k no_k no_h = other (same_next next p h k to_h to_k)
no_two_ends next p h k [] (y ∷ ys) other to_h to_k no_k no_h = lacks_head y h ys no_h (same_next next p y h to_k.0 to_h)
no_two_ends next p h k (x ∷ xs) [] other to_h to_k no_k no_h = lacks_head x k xs no_k (same_next next p x k to_h.0 to_k)
no_two_ends next p h k (x ∷ xs) (y ∷ ys) other to_h to_k no_k no_h =
    let same : y ≡ x = same_next next p y x to_k.0 to_h.0 in
    no_two_ends next x h k xs ys other to_h.2 (let P : ℕ → Type 0 = λ z. IsPath next z ys k in subst P same to_k.2) (lacks_tail x k xs no_k) (lacks_tail y h ys no_h)

pub lists_apart : (next : List ℕ) (h k : ℕ) (xs ys : List ℕ) → IsList next h xs → IsList next k ys → h ≢ k → Lacks xs k → Lacks ys h → (p : ℕ) → Contains xs p → Lacks ys p
lists_apart next h k xs ys to_h to_k other no_k no_h p in_xs in_ys =
    let a = rest_of next h h p xs to_h in_xs in
    let b = rest_of next k k p ys to_k in_ys in
    no_two_ends next p h k a.places b.places other a.path b.path (a.among k no_k) (b.among h no_h)
