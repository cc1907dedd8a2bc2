-- The sum of all counts.
use Rattle.std.proofs.Common.{◌≡◌, ◌≢◌, ℕ, ◌+◌, ◌-◌, ◌^◌, List, [], ◌∷◌, ◌++◌, true, false, length, map, sym, ap, ◌∙◌, arith, inl, inr, suc}
use Rattle.std.specs.Prelude.{min}
use Rattle.std.proofs.lemmas.Bool.{cases_Bool, false≢true}
use Rattle.ip_key_counts.specs.Counts.{Counted, Counts, added, has_bytes, is_listed, raised, counted, all_counted, merged, keys_counted, listed_total, total}
use Rattle.ip_key_counts.proofs.EntryLemmas.{are_bytes, same_bytes, raised_own, raised_other}
use Rattle.ip_key_counts.proofs.CountLemmas.{listed_way, new_way, other_way, way_of, as_listed, as_new, as_other, added_twice, added_swapped, none_listed}
use Rattle.ip_key_counts.proofs.MergeLemmas.{AreDistinct, distinct_counted, right_true}

sum_swapped : (x t n : ℕ) → added x (added t n) ≡ added (added x t) n
sum_swapped x t n = omega arith

total_added : (es : List Counted) (e : Counted) → listed_total (es ++ e ∷ []) ≡ added (listed_total es) e.count
unfolding listed_total
total_added [] e = omega arith
total_added (x ∷ es) e = ap (added x.count) (total_added es e) ∙ sum_swapped x.count (listed_total es) e.count

-- of distinct entries, one of which is raised
total_raised : (k : List ℕ) (n : ℕ) (es : List Counted) → AreDistinct es → is_listed k es ≡ true → listed_total (map (raised k n) es) ≡ added (listed_total es) n
unfolding listed_total
total_raised k n [] distinct is = absurd (false≢true is)
total_raised k n (e ∷ es) distinct is = elim (cases_Bool (has_bytes e.key k)) [
  | inl same ↦
      (let own = are_bytes e.key k same in
      let none : is_listed k es ≡ false = ap (λ (x : List ℕ). is_listed x es) (sym own) ∙ distinct.0 in
      ap (λ (x : Counted). added x.count (listed_total (map (raised k n) es))) (raised_own k n e own)
      ∙ (ap (λ (xs : List Counted). added (added e.count n) (listed_total xs)) (none_listed k n es none) ∙ added_swapped e.count n (listed_total es)))
  | inr differs ↦
      (let apart : e.key ≢ k = λ own. false≢true (sym differs ∙ same_bytes e.key k own) in
      ap (λ (x : Counted). added x.count (listed_total (map (raised k n) es))) (raised_other k n e apart)
      ∙ (ap (added e.count) (total_raised k n es distinct.1 (right_true _ _ differs is)) ∙ sum_swapped e.count (listed_total es) n))
]

pub total_counted : (room : ℕ) (c : Counts) (k : List ℕ) (n : ℕ) → AreDistinct c.listed → total (counted room c k n) ≡ added (total c) n
total_counted room c k n distinct = elim (way_of room c k) [
  | listed_way is ↦
      (ap total (as_listed room c k n is)
      ∙ (ap (λ (x : ℕ). added x c.other) (total_raised k n c.listed distinct is) ∙ added_swapped (listed_total c.listed) n c.other))
  | new_way is fits ↦
      (ap total (as_new room c k n is fits)
      ∙ (ap (λ (x : ℕ). added x c.other) (total_added c.listed (record { key = k; count = n })) ∙ added_swapped (listed_total c.listed) n c.other))
  | other_way is full ↦ ap total (as_other room c k n is full) ∙ sym (added_twice (listed_total c.listed) c.other n)
]

step_by : (t n : ℕ) → min (added t 1 + n) (2 ^ 64 - 1) ≡ min (t + suc n) (2 ^ 64 - 1)
step_by t n = omega arith

total_small : (t o : ℕ) → added t o ≡ min (added t o + 0) (2 ^ 64 - 1)
total_small t o = omega arith

pub total_keys : (room : ℕ) (c : Counts) (keys : List (List ℕ)) → AreDistinct c.listed → total (keys_counted room c keys) ≡ min (total c + length keys) (2 ^ 64 - 1)
unfolding keys_counted
total_keys room c [] distinct = total_small (listed_total c.listed) c.other
total_keys room c (k ∷ keys) distinct =
    total_keys room (counted room c k 1) keys (distinct_counted room c k 1 distinct)
    ∙ (ap (λ (t : ℕ). min (t + length keys) (2 ^ 64 - 1)) (total_counted room c k 1 distinct) ∙ step_by (total c) (length keys))

pub distinct_keys : (room : ℕ) (c : Counts) (keys : List (List ℕ)) → AreDistinct c.listed → AreDistinct (keys_counted room c keys).listed
unfolding keys_counted
distinct_keys room c [] distinct = distinct
distinct_keys room c (k ∷ keys) distinct = distinct_keys room (counted room c k 1) keys (distinct_counted room c k 1 distinct)

total_all_by : (a e t : ℕ) → added (added a e) t ≡ added a (added e t)
total_all_by a e t = omega arith

total_none : (t o : ℕ) → added t o ≡ added (added t o) 0
total_none t o = omega arith

pub total_all : (room : ℕ) (c : Counts) (es : List Counted) → AreDistinct c.listed → total (all_counted room c es) ≡ added (total c) (listed_total es)
unfolding all_counted listed_total
total_all room c [] distinct = total_none (listed_total c.listed) c.other
total_all room c (e ∷ es) distinct =
    total_all room (counted room c e.key e.count) es (distinct_counted room c e.key e.count distinct)
    ∙ (ap (λ (t : ℕ). added t (listed_total es)) (total_counted room c e.key e.count distinct) ∙ total_all_by (total c) e.count (listed_total es))

pub total_merged : (room : ℕ) (c d : Counts) → AreDistinct c.listed → total (merged room c d) ≡ added (total c) (total d)
total_merged room c d distinct =
    sym (added_twice (listed_total (all_counted room c d.listed).listed) (all_counted room c d.listed).other d.other)
    ∙ (ap (λ (t : ℕ). added t d.other) (total_all room c d.listed distinct) ∙ added_twice (total c) (listed_total d.listed) d.other)
