-- The chains of the buckets, when a place in use changed.
use Rattle.std.proofs.Common.{◌≡◌, ◌≢◌, ℕ, ◌+◌, ◌<◌, List, [], ◌∷◌, ◌++◌, Bool, true, false, length, refl, sym, ap, ◌∙◌, subst, arith, inl, inr, eqb, eq-eqb, cond}
use Rattle.std.specs.Prelude.{Contains}
use Rattle.std.proofs.lemmas.Bool.{ne_eqb, cases_eq}
use Rattle.std.proofs.lemmas.Bool.Decides.{eqb_tells}
use Rattle.std.proofs.lemmas.List.{append-nil}
use Rattle.std.proofs.lemmas.List.Elements.{filter-append, Contains-append_left}
use Rattle.ip_lists.specs.Lists.{IsList}
use Rattle.ip_lists.specs.Moves.{without, IsTakenOut, IsMovedTo}
use Rattle.ip_lists.specs.Table.{in_bucket, with_bucket}
use Rattle.ip_lists.proofs.Lacking.{Lacks, lacks_none}
use Rattle.ip_lists.proofs.Moved.{without_same, without_other}
use Rattle.ip_lists.proofs.Filters.{filter_has, without_keeps, without_has, moved_has, moved_has_place}

-- The chains of the places in use, which are below `n`.
pub record AreChained (next : List ℕ) (n : ℕ) (used : List ℕ) (bucket_of : ℕ → ℕ) : Type 0 where
  pub below : (p : ℕ) → Contains used p → p < n
  pub bucket : (p : ℕ) → Contains used p → n + bucket_of p < length next
  pub chain : (b : ℕ) → n + b < length next → IsList next (n + b) (in_bucket bucket_of b used)
  pub no_chain : (p : ℕ) → p < n → Lacks used p → IsList next p []

-- The places of a bucket but one.
swap_by : (t u : Bool) (x : ℕ) (xs : List ℕ) → cond t (cond u (x ∷ xs) xs) (cond u xs xs) ≡ cond u (cond t (x ∷ xs) xs) (cond t xs xs)
swap_by true true x xs = refl
swap_by true false x xs = refl
swap_by false true x xs = refl
swap_by false false x xs = refl

without_cond : (t : Bool) (p x : ℕ) (xs : List ℕ) → x ≢ p → without p (cond t (x ∷ xs) xs) ≡ cond t (x ∷ without p xs) (without p xs)
without_cond true p x xs other = without_other p x xs other
without_cond false p x xs other = refl

without_cond_same : (t : Bool) (p : ℕ) (xs : List ℕ) → without p (cond t (p ∷ xs) xs) ≡ without p xs
without_cond_same true p xs = without_same p xs
without_cond_same false p xs = refl

-- A place that was taken out is no longer in its bucket, and its new bucket doesn't matter to the others.
pub bucket_without : (old new : ℕ → ℕ) (b p : ℕ) → ((q : ℕ) → q ≢ p → new q ≡ old q) → (xs : List ℕ) → in_bucket new b (without p xs) ≡ without p (in_bucket old b xs)
bucket_without old new b p same [] = refl
bucket_without old new b p same (x ∷ xs) = elim (cases_eq x p) [
  | inl own ↦
      let dropped : without p (x ∷ xs) ≡ without p xs = ap (λ (y : ℕ). without p (y ∷ xs)) own ∙ without_same p xs in
      let right : without p (in_bucket old b (x ∷ xs)) ≡ without p (in_bucket old b xs) =
      ap (λ (y : ℕ). without p (cond (eqb (old x) b) (y ∷ in_bucket old b xs) (in_bucket old b xs))) own
      ∙ without_cond_same (eqb (old x) b) p (in_bucket old b xs) in
      ap (in_bucket new b) dropped ∙ (bucket_without old new b p same xs ∙ sym right)
  | inr other ↦
      let kept : without p (x ∷ xs) ≡ x ∷ without p xs = without_other p x xs other in
      let rest : in_bucket new b (without p xs) ≡ without p (in_bucket old b xs) = bucket_without old new b p same xs in
      let test : cond (eqb (new x) b) (x ∷ in_bucket new b (without p xs)) (in_bucket new b (without p xs)) ≡ cond (eqb (old x) b) (x ∷ in_bucket new b (without p xs)) (in_bucket new b (without p xs)) =
      ap (λ (c : ℕ). cond (eqb c b) (x ∷ in_bucket new b (without p xs)) (in_bucket new b (without p xs))) (same x other) in
      let along : cond (eqb (old x) b) (x ∷ in_bucket new b (without p xs)) (in_bucket new b (without p xs)) ≡ cond (eqb (old x) b) (x ∷ without p (in_bucket old b xs)) (without p (in_bucket old b xs)) =
      ap (λ (ys : List ℕ). cond (eqb (old x) b) (x ∷ ys) ys) rest in
      ap (in_bucket new b) kept ∙ (test ∙ (along ∙ sym (without_cond (eqb (old x) b) p x (in_bucket old b xs) other)))
]

pub with_same : (bucket_of : ℕ → ℕ) (p b : ℕ) → with_bucket bucket_of p b p ≡ b
with_same bucket_of p b = ap (λ (t : Bool). cond t b (bucket_of p)) (eq-eqb p p refl)

pub with_other : (bucket_of : ℕ → ℕ) (p b q : ℕ) → q ≢ p → with_bucket bucket_of p b q ≡ bucket_of q
with_other bucket_of p b q other = ap (λ (t : Bool). cond t b (bucket_of q)) (ne_eqb q p other)

-- The chain of its new bucket gets the place.
own_chain : (bucket_of : ℕ → ℕ) (p b : ℕ) (xs : List ℕ)
    → in_bucket (with_bucket bucket_of p b) b (without p xs ++ p ∷ []) ≡ without p (in_bucket bucket_of b xs) ++ p ∷ []
own_chain bucket_of p b xs =
    let new : ℕ → ℕ = with_bucket bucket_of p b in
    let parts : in_bucket new b (without p xs ++ p ∷ []) ≡ in_bucket new b (without p xs) ++ in_bucket new b (p ∷ []) = filter-append (λ q. eqb (new q) b) (without p xs) (p ∷ []) in
    let left : in_bucket new b (without p xs) ≡ without p (in_bucket bucket_of b xs) = bucket_without bucket_of new b p (λ q. with_other bucket_of p b q) xs in
    let right : in_bucket new b (p ∷ []) ≡ p ∷ [] = ap (λ (t : Bool). cond t (p ∷ []) []) (eq-eqb (new p) b (with_same bucket_of p b)) in
    cc

other_chain : (bucket_of : ℕ → ℕ) (p b other : ℕ) (xs : List ℕ) → other ≢ b
    → in_bucket (with_bucket bucket_of p b) other (without p xs ++ p ∷ []) ≡ without p (in_bucket bucket_of other xs)
other_chain bucket_of p b other xs apart =
    let new : ℕ → ℕ = with_bucket bucket_of p b in
    let parts : in_bucket new other (without p xs ++ p ∷ []) ≡ in_bucket new other (without p xs) ++ in_bucket new other (p ∷ []) = filter-append (λ q. eqb (new q) other) (without p xs) (p ∷ []) in
    let left : in_bucket new other (without p xs) ≡ without p (in_bucket bucket_of other xs) = bucket_without bucket_of new other p (λ q. with_other bucket_of p b q) xs in
    let right : in_bucket new other (p ∷ []) ≡ [] = ap (λ (t : Bool). cond t (p ∷ []) []) (ne_eqb (new p) other (λ e. apart (sym e ∙ with_same bucket_of p b))) in
    parts ∙ (ap (λ (ys : List ℕ). ys ++ in_bucket new other (p ∷ [])) left ∙ (ap (λ (ys : List ℕ). without p (in_bucket bucket_of other xs) ++ ys) right ∙ append-nil (without p (in_bucket bucket_of other xs))))

lacks_bucket : (bucket_of : ℕ → ℕ) (b q : ℕ) (xs : List ℕ) → Lacks xs q → Lacks (in_bucket bucket_of b xs) q
lacks_bucket bucket_of b q xs none = λ c. none (filter_has (λ p. eqb (bucket_of p) b) xs q c).0

-- A place is in use from then on, and in this bucket.
pub chained_moved : (next new : List ℕ) (n p b : ℕ) (used : List ℕ) (bucket_of : ℕ → ℕ) → AreChained next n used bucket_of → p < n → n + b < length next
    → length new ≡ length next → IsMovedTo next new (n + b) p
    → AreChained new n (without p used ++ p ∷ []) (with_bucket bucket_of p b)
chained_moved next new n p b used bucket_of old within exists as_long moved = record {
  below = λ q c. elim (moved_has p used q c) [
    | inl same ↦ (let P : ℕ → Type 0 = λ z. z < n in subst P same within)
    | inr kept ↦ old.below q kept.0
  ];
  bucket = λ q c. elim (moved_has p used q c) [
    | inl same ↦
        let is : with_bucket bucket_of p b q ≡ b = ap (with_bucket bucket_of p b) (sym same) ∙ with_same bucket_of p b in
        omega arith
    | inr kept ↦
        let is : with_bucket bucket_of p b q ≡ bucket_of q = with_other bucket_of p b q kept.1 in
        let there : n + bucket_of q < length next = old.bucket q kept.0 in
        omega arith
  ];
  chain = λ other less. elim (eqb_tells other b) [
    | inl same ↦
        let P : List ℕ → Type 0 = λ xs. IsList new (n + b) xs in
        let Q : ℕ → Type 0 = λ x. IsList new (n + x) (in_bucket (with_bucket bucket_of p b) x (without p used ++ p ∷ [])) in
        subst Q (sym same.1) (subst P (sym (own_chain bucket_of p b used)) (moved.appended (in_bucket bucket_of b used) (old.chain b exists)))
    | inr apart ↦
        let P : List ℕ → Type 0 = λ xs. IsList new (n + other) xs in
        let inside : n + other < length next = omega arith in
        let no_head : Lacks used (n + b) = λ c. (let low : n + b < n = old.below (n + b) c in omega arith) in
        subst P (sym (other_chain bucket_of p b other used apart.1))
        (moved.others (n + other) (in_bucket bucket_of other used) (λ e. apart.1 (omega arith)) (λ e. absurd (omega arith)) (lacks_bucket bucket_of other (n + b) used no_head) (old.chain other inside))
  ];
  no_chain = λ q less none.
      let apart : q ≢ p = λ e. none (let P : ℕ → Type 0 = λ z. Contains (without p used ++ p ∷ []) z in subst P (sym e) (moved_has_place p used)) in
      let unused : Lacks used q = λ c. none (Contains-append_left (without p used) (p ∷ []) q (without_keeps p used q apart c)) in
      moved.others q [] (λ e. absurd (omega arith)) apart (lacks_none (n + b)) (old.no_chain q less unused);
}

-- A place is free from then on.
pub chained_without : (next new : List ℕ) (n p : ℕ) (used : List ℕ) (bucket_of : ℕ → ℕ) → AreChained next n used bucket_of → p < n
    → length new ≡ length next → IsTakenOut next new p → IsList new p []
    → AreChained new n (without p used) bucket_of
chained_without next new n p used bucket_of old within as_long out alone = record {
  below = λ q c. old.below q (without_has p used q c).0;
  bucket = λ q c. (let there : n + bucket_of q < length next = old.bucket q (without_has p used q c).0 in omega arith);
  chain = λ b less.
      let P : List ℕ → Type 0 = λ xs. IsList new (n + b) xs in
      subst P (sym (bucket_without bucket_of bucket_of b p (λ q _. refl) used))
      (out (n + b) (in_bucket bucket_of b used) (λ e. absurd (omega arith)) (old.chain b (omega arith)));
  no_chain = λ q less none. elim (eqb_tells q p) [
    | inl same ↦ (let P : ℕ → Type 0 = λ z. IsList new z [] in subst P (sym same.1) alone)
    | inr apart ↦ out q [] apart.1 (old.no_chain q less (λ c. none (without_keeps p used q apart.1 c)))
  ];
}
