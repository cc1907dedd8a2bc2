-- Places that are appended in their order.
use Rattle.std.proofs.Common.{◌≡◌, ◌≢◌, ℕ, ◌+◌, ◌<◌, ◌≤◌, List, [], ◌∷◌, ◌++◌, Bool, true, length, get_or, sym, ap, ◌∙◌, subst, suc, zero, arith, inl, inr, eqb, ◌||◌}
use Rattle.std.specs.Prelude.{AllPairs, Contains, slice_get, Some}
use Rattle.std.specs.List.{list_any, range_with_len, IsDistinct}
use Rattle.std.proofs.lemmas.Bool.{ne_eqb, false≢true}
use Rattle.std.proofs.lemmas.Bool.Decides.{eqb_tells}
use Rattle.std.proofs.lemmas.List.FromFn.{length-range_with_len, get_or-range_with_len}
use Rattle.std.proofs.lemmas.Map.Keys.{IsDistinct-from_apart}
use Rattle.std.proofs.lemmas.Map.Steps.{length-le_from_distinct_below}
use Rattle.ip_lists.specs.Lists.{AreInverse, IsAlone, IsList}
use Rattle.ip_lists.proofs.Filters.{has_tail}
use Rattle.ip_lists.proofs.Lacking.{Lacks, lacks_none}

pub range_more : (a n : ℕ) → range_with_len a (suc n) ≡ range_with_len a n ++ (a + n) ∷ []
range_more a zero = ap (λ (x : ℕ). x ∷ []) (let e : a ≡ a + 0 = omega arith in e)
range_more a (suc n) =
    let rest : range_with_len (a + 1) (suc n) ≡ range_with_len (a + 1) n ++ (a + 1 + n) ∷ [] = range_more (a + 1) n in
    let last : a + 1 + n ≡ a + suc n = omega arith in
    ap (λ (xs : List ℕ). a ∷ xs) (rest ∙ ap (λ (x : ℕ). range_with_len (a + 1) n ++ x ∷ []) last)

pub in_range : (n p : ℕ) → p < n → Contains (range_with_len 0 n) p
in_range n p less = (p, (let len : length (range_with_len 0 n) ≡ n = length-range_with_len 0 n in omega arith), (let at : get_or (range_with_len 0 n) p p ≡ 0 + p = get_or-range_with_len 0 n p p less in omega arith))

pub range_has : (n p : ℕ) → Contains (range_with_len 0 n) p → p < n
range_has n p c =
    let len : length (range_with_len 0 n) ≡ n = length-range_with_len 0 n in
    let inside : c.0 < length (range_with_len 0 n) = c.1 in
    let less : c.0 < n = omega arith in
    let at : get_or (range_with_len 0 n) c.0 p ≡ 0 + c.0 = get_or-range_with_len 0 n c.0 p less in
    let is : get_or (range_with_len 0 n) c.0 p ≡ p = c.2 in
    omega arith

-- The first places were appended to the list of the head, and the others are in no list.
pub record IsPushed (next previous : List ℕ) (head n : ℕ) : Type 0 where
  pub linked : AreInverse next previous
  pub within : head < length next
  pub listed : IsList next head (range_with_len 0 n)
  pub others : (h : ℕ) → n ≤ h → h < length next → h ≢ head → IsList next h []

pub next_alone : (next previous : List ℕ) (head n : ℕ) → IsPushed next previous head n → n < head → IsAlone next previous n
next_alone next previous head n pushed less =
    let within : head < length next = pushed.within in
    let alone : slice_get next n ≡ Some n = pushed.others n (omega arith) (omega arith) (λ e. absurd (omega arith)) in
    (alone, pushed.linked.back n n alone)

pub pushed_more : (next previous new new_previous : List ℕ) (head n : ℕ) → IsPushed next previous head n → n < head
    → length new ≡ length next → AreInverse new new_previous
    → ((xs : List ℕ) → IsList next head xs → IsList new head (xs ++ n ∷ []))
    → ((h : ℕ) (zs : List ℕ) → h ≢ head → h ≢ n → Lacks zs head → IsList next h zs → IsList new h zs)
    → IsPushed new new_previous head (n + 1)
pushed_more next previous new new_previous head n pushed less as_long linked appended others =
    let within : head < length next = pushed.within in
    record {
      linked = linked;
      within = omega arith;
      listed =
          (let P : List ℕ → Type 0 = λ xs. IsList new head xs in
          let last : 0 + n ≡ n = omega arith in
          let count : suc n ≡ n + 1 = omega arith in
          let e : range_with_len 0 n ++ n ∷ [] ≡ range_with_len 0 (n + 1) = ap (λ (x : ℕ). range_with_len 0 n ++ x ∷ []) (sym last) ∙ (sym (range_more 0 n) ∙ ap (range_with_len 0) count) in
          subst P e (appended (range_with_len 0 n) pushed.listed));
      others = λ h least inside apart. others h [] apart (λ e. absurd (omega arith)) (lacks_none head) (pushed.others h (omega arith) (omega arith) apart);
    }

-- Distinct places below `n` are at most `n`.
any_has : (q : ℕ) (xs : List ℕ) → list_any (eqb q) xs ≡ true → Contains xs q
any_has q [] any = absurd (false≢true any)
any_has q (x ∷ xs) any = elim (eqb_tells q x) [
  | inl same ↦ (0, omega arith, sym same.1)
  | inr other ↦ has_tail x q xs (any_has q xs (sym (ap (λ (t : Bool). t || list_any (eqb q) xs) other.0) ∙ any))
]

pub few_below : (n : ℕ) (xs : List ℕ) → AllPairs (λ a b. a ≢ b) xs → ((q : ℕ) → Contains xs q → q < n) → length xs ≤ n
few_below n xs distinct below =
    let apart : IsDistinct eqb xs = IsDistinct-from_apart eqb xs (λ i j d less within. ne_eqb _ _ (distinct i j d less within)) in
    length-le_from_distinct_below xs n apart (λ q any. below q (any_has q xs any))
