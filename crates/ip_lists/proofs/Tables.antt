-- A table, when a place was taken or released.
use Rattle.std.proofs.Common.{◌≡◌, ◌≢◌, ℕ, ◌+◌, ◌<◌, ◌≤◌, List, [], ◌∷◌, ◌++◌, Bool, length, refl, sym, ap, ◌∙◌, subst, arith, inl, inr, eqb, eq-eqb, cond}
use Rattle.std.specs.Prelude.{Contains, slice_get, Some, ◌↔◌}
use Rattle.std.specs.List.{range_with_len}
use Rattle.std.proofs.lemmas.Bool.{ne_eqb, eqb-true}
use Rattle.std.proofs.lemmas.List.Elements.{Contains-append_right}
use Rattle.ip_lists.specs.Lists.{AreInverse, IsAlone, IsPath, IsList}
use Rattle.ip_lists.specs.Moves.{without, IsTakenOut, IsMovedTo}
use Rattle.ip_lists.specs.Table.{IsTable, in_bucket, with_bucket}
use Rattle.ip_lists.specs.declared.table.Table.{Table}
use Rattle.ip_lists.proofs.Lacking.{Lacks, lacks_cons, lacks_none}
use Rattle.ip_lists.proofs.Paths.{path_from, same_path, lacks_start, lacks_alone}
use Rattle.ip_lists.proofs.ListLemmas.{distinct, lists_apart}
use Rattle.ip_lists.proofs.Moved.{without_same, without_lacking, without_between}
use Rattle.ip_lists.proofs.Filters.{has_head, has_tail, filter_keeps, filter_has}
use Rattle.ip_lists.proofs.Ranges.{few_below, in_range, range_has}
use Rattle.ip_lists.proofs.Ages.{AreSplit, swapped, lacks_high, moved_first, moved_second}
use Rattle.ip_lists.proofs.Chains.{AreChained, chained_moved, chained_without}

-- A table, by its arrays.
pub record AreTable (n : ℕ) (ages chains free used : List ℕ) (bucket_of : ℕ → ℕ) : Type 0 where
  pub split : AreSplit ages n n (n + 1) free used
  pub chained : AreChained chains n used bucket_of

pub from_table : (table : Table) (free used : List ℕ) (bucket_of : ℕ → ℕ) → IsTable table free used bucket_of
    → AreTable table.places table.ages.next.now table.chains.next.now free used bucket_of
from_table table free used bucket_of is = record {
  split = record {
    high = omega arith;
    other_high = omega arith;
    apart = λ e. absurd (omega arith);
    list = is.free_list;
    other_list = is.used_list;
    each = is.each;
  };
  chained = record {
    below = λ p c. (is.each p).0 (inr c);
    bucket = is.bucket;
    chain = is.chain;
    no_chain = λ p less none. elim ((is.each p).1 less) [ inl free ↦ is.no_chain p free | inr used ↦ absurd (none used) ];
  };
}

-- A free place isn't in use.
pub free_lacks : (n h k : ℕ) (ages free used : List ℕ) → AreSplit ages n h k free used → (p : ℕ) → Contains free p → Lacks used p
free_lacks n h k ages free used split =
    let no_k : Lacks free k = lacks_high ages n h k free used split k split.other_high in
    let no_h : Lacks used h = lacks_high ages n k h used free (swapped _ _ _ _ _ _ split) h split.high in
    lists_apart ages h k free used split.list split.other_list split.apart no_k no_h

pub to_table : (table : Table) (free used : List ℕ) (bucket_of : ℕ → ℕ)
    → AreInverse table.ages.next.now table.ages.previous.now → AreInverse table.chains.next.now table.chains.previous.now
    → AreTable table.places table.ages.next.now table.chains.next.now free used bucket_of
    → IsTable table free used bucket_of
to_table table free used bucket_of ages_linked chains_linked is = record {
  ages_linked = ages_linked;
  chains_linked = chains_linked;
  each = is.split.each;
  free_list = is.split.list;
  used_list = is.split.other_list;
  bucket = is.chained.bucket;
  chain = is.chained.chain;
  no_chain = λ p c. is.chained.no_chain p ((is.split.each p).0 (inl c)) (free_lacks _ _ _ _ _ _ is.split p c);
}

-- The places around one of a path.
pub without_first : (next : List ℕ) (from end p : ℕ) (xs : List ℕ) → IsPath next from (p ∷ xs) end → without p (p ∷ xs) ≡ xs
without_first next from end p xs path = without_same p xs ∙ without_lacking p xs (lacks_start next p end xs path.2)

lacks_before : (next : List ℕ) (from end p : ℕ) (xs ys : List ℕ) → IsPath next from (xs ++ p ∷ ys) end → Lacks xs p
lacks_before next from end p [] ys path = lacks_none p
lacks_before next from end p (x ∷ xs) ys path =
    let none : Lacks (xs ++ p ∷ ys) x = lacks_start next x end (xs ++ p ∷ ys) path.2 in
    let there : Contains (xs ++ p ∷ ys) p = Contains-append_right xs (p ∷ ys) p (has_head p ys) in
    let apart : x ≢ p = λ e. none (let P : ℕ → Type 0 = λ z. Contains (xs ++ p ∷ ys) z in subst P (sym e) there) in
    lacks_cons x p xs apart (lacks_before next x end p xs ys path.2)

pub without_inner : (next : List ℕ) (from end p : ℕ) (xs ys : List ℕ) → IsPath next from (xs ++ p ∷ ys) end → without p (xs ++ p ∷ ys) ≡ xs ++ ys
without_inner next from end p xs ys path =
    without_between p xs ys (lacks_before next from end p xs ys path) (lacks_start next p end ys (path_from next from end p xs ys path))

taken : (n p b : ℕ) (ages chains new_ages new_chains free used : List ℕ) (bucket_of : ℕ → ℕ) → AreTable n ages chains free used bucket_of
    → p < n → n + b < length chains → length new_chains ≡ length chains → IsMovedTo ages new_ages (n + 1) p → IsMovedTo chains new_chains (n + b) p
    → AreTable n new_ages new_chains (without p free) (without p used ++ p ∷ []) (with_bucket bucket_of p b)
taken n p b ages chains new_ages new_chains free used bucket_of is within exists as_long aged chained = record {
  split = moved_second ages new_ages n n (n + 1) p free used is.split within aged;
  chained = chained_moved chains new_chains n p b used bucket_of is.chained within exists as_long chained;
}

-- A free place is in use from then on.
pub taken_free : (n p b : ℕ) (ages chains new_ages new_chains free used : List ℕ) (bucket_of : ℕ → ℕ) → AreTable n ages chains (p ∷ free) used bucket_of
    → n + b < length chains → length new_chains ≡ length chains → IsMovedTo ages new_ages (n + 1) p → IsMovedTo chains new_chains (n + b) p
    → AreTable n new_ages new_chains free (used ++ p ∷ []) (with_bucket bucket_of p b)
taken_free n p b ages chains new_ages new_chains free used bucket_of is exists as_long aged chained =
    let there : Contains (p ∷ free) p = has_head p free in
    let rest : without p (p ∷ free) ≡ free = without_first ages n n p free is.split.list in
    let same : without p used ≡ used = without_lacking p used (free_lacks _ _ _ _ _ _ is.split p there) in
    let P : List ℕ → Type 0 = λ xs. AreTable n new_ages new_chains xs (used ++ p ∷ []) (with_bucket bucket_of p b) in
    let Q : List ℕ → Type 0 = λ xs. AreTable n new_ages new_chains (without p (p ∷ free)) (xs ++ p ∷ []) (with_bucket bucket_of p b) in
    subst P rest (subst Q same (taken n p b ages chains new_ages new_chains (p ∷ free) used bucket_of is ((is.split.each p).0 (inl there)) exists as_long aged chained))

-- The place that has been in use longest is in use anew.
pub taken_used : (n p b : ℕ) (ages chains new_ages new_chains used : List ℕ) (bucket_of : ℕ → ℕ) → AreTable n ages chains [] (p ∷ used) bucket_of
    → n + b < length chains → length new_chains ≡ length chains → IsMovedTo ages new_ages (n + 1) p → IsMovedTo chains new_chains (n + b) p
    → AreTable n new_ages new_chains [] (used ++ p ∷ []) (with_bucket bucket_of p b)
taken_used n p b ages chains new_ages new_chains used bucket_of is exists as_long aged chained =
    let there : Contains (p ∷ used) p = has_head p used in
    let rest : without p (p ∷ used) ≡ used = without_first ages (n + 1) (n + 1) p used is.split.other_list in
    let P : List ℕ → Type 0 = λ xs. AreTable n new_ages new_chains [] (xs ++ p ∷ []) (with_bucket bucket_of p b) in
    subst P rest (taken n p b ages chains new_ages new_chains [] (p ∷ used) bucket_of is ((is.split.each p).0 (inr there)) exists as_long aged chained)

-- A place that is in use is the youngest one from then on.
pub renewed : (n p b : ℕ) (ages chains new_ages new_chains free used : List ℕ) (bucket_of : ℕ → ℕ) → AreTable n ages chains free used bucket_of
    → Contains used p → n + b < length chains → length new_chains ≡ length chains → IsMovedTo ages new_ages (n + 1) p → IsMovedTo chains new_chains (n + b) p
    → AreTable n new_ages new_chains free (without p used ++ p ∷ []) (with_bucket bucket_of p b)
renewed n p b ages chains new_ages new_chains free used bucket_of is there exists as_long aged chained =
    let same : without p free ≡ free = without_lacking p free (λ c. free_lacks _ _ _ _ _ _ is.split p c there) in
    let P : List ℕ → Type 0 = λ xs. AreTable n new_ages new_chains xs (without p used ++ p ∷ []) (with_bucket bucket_of p b) in
    subst P same (taken n p b ages chains new_ages new_chains free used bucket_of is (is.chained.below p there) exists as_long aged chained)

-- A place in use is free from then on.
pub released : (n p : ℕ) (ages chains new_ages new_chains free xs ys : List ℕ) (bucket_of : ℕ → ℕ) → AreTable n ages chains free (xs ++ p ∷ ys) bucket_of
    → length new_chains ≡ length chains → IsMovedTo ages new_ages n p → IsTakenOut chains new_chains p → IsList new_chains p []
    → AreTable n new_ages new_chains (free ++ p ∷ []) (xs ++ ys) bucket_of
released n p ages chains new_ages new_chains free xs ys bucket_of is as_long aged out alone =
    let used : List ℕ = xs ++ p ∷ ys in
    let there : Contains used p = Contains-append_right xs (p ∷ ys) p (has_head p ys) in
    let within : p < n = is.chained.below p there in
    let rest : without p used ≡ xs ++ ys = without_inner ages (n + 1) (n + 1) p xs ys is.split.other_list in
    let same : without p free ≡ free = without_lacking p free (λ c. free_lacks _ _ _ _ _ _ is.split p c there) in
    let all : AreTable n new_ages new_chains (without p free ++ p ∷ []) (without p used) bucket_of = record {
      split = moved_first ages new_ages n n (n + 1) p free used is.split within aged;
      chained = chained_without chains new_chains n p used bucket_of is.chained within as_long out alone;
    } in
    let P : List ℕ → Type 0 = λ zs. AreTable n new_ages new_chains (free ++ p ∷ []) zs bucket_of in
    let Q : List ℕ → Type 0 = λ zs. AreTable n new_ages new_chains (zs ++ p ∷ []) (without p used) bucket_of in
    subst P rest (subst Q same all)

-- A place in use is in a chain.
pub used_alone : (n p : ℕ) (ages chains free used : List ℕ) (bucket_of : ℕ → ℕ) → AreTable n ages chains free used bucket_of → Contains used p → slice_get chains p ≡ Some p → ⊥
used_alone n p ages chains free used bucket_of is there alone =
    let within : p < n = is.chained.below p there in
    let exists : n + bucket_of p < length chains = is.chained.bucket p there in
    let here : Contains (in_bucket bucket_of (bucket_of p) used) p = filter_keeps (λ q. eqb (bucket_of q) (bucket_of p)) used p (eq-eqb (bucket_of p) (bucket_of p) refl) there in
    lacks_alone chains (n + bucket_of p) p (n + bucket_of p) (in_bucket bucket_of (bucket_of p) used) alone (λ e. absurd (omega arith)) (is.chained.chain (bucket_of p) exists) here

pub unused_alone : (n p : ℕ) (ages chains previous free used : List ℕ) (bucket_of : ℕ → ℕ) → AreTable n ages chains free used bucket_of → AreInverse chains previous → p < n → Lacks used p → IsAlone chains previous p
unused_alone n p ages chains previous free used bucket_of is linked within none =
    let alone : slice_get chains p ≡ Some p = is.chained.no_chain p within none in
    (alone, linked.back p p alone)

pub moved_as : (old new : List ℕ) (h k p q : ℕ) → h ≡ k → p ≡ q → IsMovedTo old new h p → IsMovedTo old new k q
moved_as old new h k p q heads places moved =
    let P : ℕ → Type 0 = λ x. IsMovedTo old new x q in
    let Q : ℕ → Type 0 = λ x. IsMovedTo old new h x in
    subst P heads (subst Q places moved)

-- The chain of a bucket has at most as many places as there are.
pub chain_fits : (n b : ℕ) (ages chains free used : List ℕ) (bucket_of : ℕ → ℕ) → AreTable n ages chains free used bucket_of → n + b < length chains → length (in_bucket bucket_of b used) ≤ n
chain_fits n b ages chains free used bucket_of is exists =
    few_below n (in_bucket bucket_of b used) (distinct chains (n + b) (n + b) (in_bucket bucket_of b used) (is.chained.chain b exists))
    (λ q c. is.chained.below q (filter_has (λ p. eqb (bucket_of p) b) used q c).0)

pub no_bucket : (bucket_of : ℕ → ℕ) (b : ℕ) (used : List ℕ) → ((p : ℕ) → Contains used p → bucket_of p ≢ b) → in_bucket bucket_of b used ≡ []
no_bucket bucket_of b [] none = refl
no_bucket bucket_of b (x ∷ xs) none =
    ap (λ (t : Bool). cond t (x ∷ in_bucket bucket_of b xs) (in_bucket bucket_of b xs)) (ne_eqb (bucket_of x) b (none x (has_head x xs)))
    ∙ no_bucket bucket_of b xs (λ p c. none p (has_tail x p xs c))

-- All places are free.
pub cleared : (table : Table) (bucket_of : ℕ → ℕ) → AreInverse table.ages.next.now table.ages.previous.now → AreInverse table.chains.next.now table.chains.previous.now
    → table.places + 1 < length table.ages.next.now → table.places ≤ length table.chains.next.now
    → IsList table.ages.next.now table.places (range_with_len 0 table.places)
    → ((h : ℕ) → table.places < h → h < length table.ages.next.now → IsList table.ages.next.now h [])
    → ((h : ℕ) → h < length table.chains.next.now → IsList table.chains.next.now h [])
    → IsTable table (range_with_len 0 table.places) [] bucket_of
cleared table bucket_of ages_linked chains_linked room chains_room free others empty = record {
  ages_linked = ages_linked;
  chains_linked = chains_linked;
  each = λ p. (λ c. elim c [ inl here ↦ range_has table.places p here | inr none ↦ absurd (lacks_none p none) ], λ less. inl (in_range table.places p less));
  free_list = free;
  used_list = others (table.places + 1) (omega arith) room;
  bucket = λ p c. absurd (lacks_none p c);
  chain = λ b exists. empty (table.places + b) exists;
  no_chain = λ p c. (let less : p < table.places = range_has table.places p c in empty p (omega arith));
}

pub bucket_has : (bucket_of : ℕ → ℕ) (b p : ℕ) (used : List ℕ) → Contains (in_bucket bucket_of b used) p ↔ (Contains used p × (bucket_of p ≡ b))
bucket_has bucket_of b p used = (
  λ c. (let both = filter_has (λ q. eqb (bucket_of q) b) used p c in (both.0, eqb-true (bucket_of p) b both.1)),
  λ both. filter_keeps (λ q. eqb (bucket_of q) b) used p (eq-eqb (bucket_of p) b both.1) both.0,
)

pub same_bucket : (a b : ℕ → ℕ) (bucket : ℕ) (used : List ℕ) → ((p : ℕ) → Contains used p → b p ≡ a p) → in_bucket b bucket used ≡ in_bucket a bucket used
same_bucket a b bucket [] same = refl
same_bucket a b bucket (x ∷ xs) same =
    let rest : in_bucket b bucket xs ≡ in_bucket a bucket xs = same_bucket a b bucket xs (λ p c. same p (has_tail x p xs c)) in
    ap (λ (t : ℕ). cond (eqb t bucket) (x ∷ in_bucket b bucket xs) (in_bucket b bucket xs)) (same x (has_head x xs))
    ∙ ap (λ (ys : List ℕ). cond (eqb (a x) bucket) (x ∷ ys) ys) rest

-- The buckets of free places don't matter.
pub other_buckets : (table : Table) (free used : List ℕ) (a b : ℕ → ℕ) → IsTable table free used a → ((p : ℕ) → Contains used p → b p ≡ a p) → IsTable table free used b
other_buckets table free used a b is same = record {
  ages_linked = is.ages_linked;
  chains_linked = is.chains_linked;
  each = is.each;
  free_list = is.free_list;
  used_list = is.used_list;
  bucket = λ p c. (let P : ℕ → Type 0 = λ x. table.places + x < length table.chains.next.now in subst P (sym (same p c)) (is.bucket p c));
  chain = λ bucket exists. (let P : List ℕ → Type 0 = λ xs. IsList table.chains.next.now (table.places + bucket) xs in subst P (sym (same_bucket a b bucket used same)) (is.chain bucket exists));
  no_chain = is.no_chain;
}

-- A table has only one list of places in use, and one bucket of each.
pub one_bucket : (table : Table) (free used other_free : List ℕ) (a b : ℕ → ℕ) → IsTable table free used a → IsTable table other_free used b → (p : ℕ) → Contains used p → b p ≡ a p
one_bucket table free used other_free a b is other p c =
    let exists : table.places + a p < length table.chains.next.now = is.bucket p c in
    let here : Contains (in_bucket a (a p) used) p = (bucket_has a (a p) p used).1 (c, refl) in
    let same : in_bucket a (a p) used ≡ in_bucket b (a p) used = same_path table.chains.next.now _ _ _ _ (is.chain (a p) exists) (other.chain (a p) exists) in
    ((bucket_has b (a p) p used).0 (let P : List ℕ → Type 0 = λ xs. Contains xs p in subst P same here)).1

pub one_meaning : (table : Table) (free used other_free other_used : List ℕ) (a b : ℕ → ℕ) → IsTable table free used a → IsTable table other_free other_used b
    → (other_free ≡ free) × (other_used ≡ used) × ((p : ℕ) → Contains used p → b p ≡ a p)
one_meaning table free used other_free other_used a b is other =
    let free_same : other_free ≡ free = same_path table.ages.next.now _ _ _ _ other.free_list is.free_list in
    let used_same : other_used ≡ used = same_path table.ages.next.now _ _ _ _ other.used_list is.used_list in
    let P : List ℕ → Type 0 = λ xs. IsTable table other_free xs b in
    (free_same, used_same, one_bucket table free used other_free a b is (subst P used_same other))
