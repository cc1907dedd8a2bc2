-- Tables stay valid.
use Rattle.std.proofs.Common.{◌≡◌, ◌≢◌, ℕ, ◌+◌, ◌-◌, ◌^◌, ◌<◌, ◌≤◌, List, length, map, take, sym, ap, ◌∙◌, subst, arith, inl, inr, ◌⊎◌, get_or-set_same, get_or-set_other, length-set}
use Rattle.std.specs.Prelude.{slice_set, slice_index, IfSome, Option, Some, None}
use Rattle.std.proofs.lemmas.Bool.{cases_eq}
use Rattle.std.proofs.Math.Nat.{add-sub_cancel}
use Rattle.ip_key_counts.specs.Entry.{key_in, counted_in, raised_entry, blank, entry_at, key_at, IsLast, AreLinked}
use Rattle.ip_key_counts.specs.Counts.{counted}
use Rattle.ip_key_counts.specs.Table.{bucket_among, counts_in, IsTable, IsNew}
use Rattle.ip_key_counts.proofs.EntryLemmas.{counted_at}
use Rattle.ip_key_counts.specs.declared.counted_key.CountedKey.{CountedKey}
use Rattle.ip_key_counts.specs.declared.counted_key.TheConstants.{MAX_KEY_LEN}
use Rattle.ip_key_counts.specs.declared.key_counts.KeyCounts.{KeyCounts}

-- an entry that was written, and another one
pub here : (es : List CountedKey) (p : ℕ) (e : CountedKey) → p < length es → entry_at (slice_set es p e) p ≡ e
here es p e within = get_or-set_same es p e blank within

pub elsewhere : (es : List CountedKey) (p q : ℕ) (e : CountedKey) → q ≢ p → entry_at (slice_set es p e) q ≡ entry_at es q
elsewhere es p q e apart = get_or-set_other es p q e blank apart

-- Both lists have these keys and links in their first n entries.
pub record HaveSameKeys (n : ℕ) (es fs : List CountedKey) : Type 0 where
  pub keys : (q : ℕ) → q < n → key_at fs q ≡ key_at es q
  pub links : (q : ℕ) → q < n → (entry_at fs q).older ≡ (entry_at es q).older

pub same_when_raised : (n p m : ℕ) (es : List CountedKey) → p < length es → HaveSameKeys n es (slice_set es p (raised_entry (entry_at es p) m))
same_when_raised n p m es within =
    let e : CountedKey = raised_entry (entry_at es p) m in
    record {
      keys = λ q less. elim (cases_eq q p) [
        | inl same ↦ (let P : ℕ → Type 0 = λ x. key_at (slice_set es p e) x ≡ key_at es x in subst P (sym same) (ap key_in (here es p e within)))
        | inr other ↦ ap key_in (elsewhere es p q e other)
      ];
      links = λ q less. elim (cases_eq q p) [
        | inl same ↦ (let P : ℕ → Type 0 = λ x. (entry_at (slice_set es p e) x).older ≡ (entry_at es x).older in subst P (sym same) (ap (λ (x : CountedKey). x.older) (here es p e within)))
        | inr other ↦ ap (λ (x : CountedKey). x.older) (elsewhere es p q e other)
      ];
    }

pub same_when_added : (n : ℕ) (es : List CountedKey) (e : CountedKey) → HaveSameKeys n es (slice_set es n e)
same_when_added n es e = record {
  keys = λ q less. ap key_in (elsewhere es n q e (omega arith));
  links = λ q less. ap (λ (x : CountedKey). x.older) (elsewhere es n q e (omega arith));
}

pub same_last : (bucket_of : List ℕ → ℕ) (es fs : List CountedKey) (b end link : ℕ) → ((q : ℕ) → q < end → key_at fs q ≡ key_at es q)
    → IsLast bucket_of es b end link → IsLast bucket_of fs b end link
same_last bucket_of es fs b end link same last =
    let within : link ≤ end = last.within in
    record {
      within = last.within;
      in_bucket = λ some. ap bucket_of (same (link - 1) (omega arith)) ∙ last.in_bucket some;
      none_after = λ q after less is. last.none_after q after less (sym (ap bucket_of (same q less)) ∙ is);
    }

pub same_linked : (bucket_of : List ℕ → ℕ) (n : ℕ) (es fs : List CountedKey) → HaveSameKeys n es fs → (p : ℕ) → p < n
    → IsLast bucket_of es (bucket_of (key_at es p)) p (entry_at es p).older → IsLast bucket_of fs (bucket_of (key_at fs p)) p (entry_at fs p).older
same_linked bucket_of n es fs same p less last =
    let at_keys : IsLast bucket_of fs (bucket_of (key_at es p)) p (entry_at es p).older =
    same_last bucket_of es fs _ p _ (λ q below. same.keys q (omega arith)) last in
    let P : List ℕ → Type 0 = λ k. IsLast bucket_of fs (bucket_of k) p (entry_at es p).older in
    let Q : ℕ → Type 0 = λ link. IsLast bucket_of fs (bucket_of (key_at fs p)) p link in
    subst Q (sym (same.links p less)) (subst P (sym (same.keys p less)) at_keys)

-- A table is the same if its keys and links are.
pub table_with : (t u : KeyCounts) → IsTable t → length u.entries.now ≡ length t.entries.now → HaveSameKeys t.len t.entries.now u.entries.now
    → u.newest.now ≡ t.newest.now → u.len ≡ t.len → u.seed ≡ t.seed → IsTable u
table_with t u table as_many same newest len seed =
    let n_is : length u.newest.now ≡ length t.newest.now = ap length newest in
    let B : List ℕ → ℕ = bucket_among t.seed (length t.newest.now) in
    let P : List ℕ → ℕ → Type 0 = λ s n. (b : ℕ) → b < n → IsLast (bucket_among s n) u.entries.now b u.len (slice_index u.newest.now b) in
    let Q : List ℕ → ℕ → Type 0 = λ s n. AreLinked (bucket_among s n) u.entries.now u.len in
    let last : (b : ℕ) → b < length t.newest.now → IsLast B u.entries.now b u.len (slice_index u.newest.now b) = λ b less.
    rw (newest, len) (same_last B t.entries.now u.entries.now b t.len _ same.keys (table.newest b less)) in
    let linked : AreLinked B u.entries.now u.len = rw len (record { links = λ p less. same_linked B t.len t.entries.now u.entries.now same p less (table.linked.links p less) }) in
    let few : length t.entries.now < 2 ^ 32 = table.buckets.few in
    let some : 0 < length t.newest.now = table.buckets.some in
    let within : t.len ≤ length t.entries.now = table.within in
    record {
      buckets = record { some = omega arith; few = omega arith };
      within = omega arith;
      short = λ p less. rw (same.keys p (omega arith)) (table.short p (omega arith));
      distinct = λ p q before less is. table.distinct p q before (omega arith) (sym (same.keys p (omega arith)) ∙ (is ∙ same.keys q (omega arith)));
      newest = (let R : ℕ → Type 0 = λ n. P u.seed n in subst R (sym n_is) (let S : List ℕ → Type 0 = λ s. P s (length t.newest.now) in subst S (sym seed) last));
      linked = (let R : ℕ → Type 0 = λ n. Q u.seed n in subst R (sym n_is) (let S : List ℕ → Type 0 = λ s. Q s (length t.newest.now) in subst S (sym seed) linked));
    }

below_or_at : (q n : ℕ) → q < n + 1 → (q < n) ⊎ (q ≡ n)
below_or_at q n less = search (arith)

-- the links of a bucket when an entry was added
added_last : (bucket_of : List ℕ → ℕ) (n bucket b link : ℕ) (es fs : List CountedKey) → ((q : ℕ) → q < n → key_at fs q ≡ key_at es q) → bucket_of (key_at fs n) ≡ bucket → b ≢ bucket
    → IsLast bucket_of es b n link → IsLast bucket_of fs b (n + 1) link
added_last bucket_of n bucket b link es fs same is other last =
    let before = same_last bucket_of es fs b n link same last in
    let within : link ≤ n = last.within in
    record {
      within = omega arith;
      in_bucket = before.in_bucket;
      none_after = λ q after less there. elim (below_or_at q n less) [
        | inl below ↦ before.none_after q after below there
        | inr at ↦ other (sym there ∙ (ap (λ (x : ℕ). bucket_of (key_at fs x)) at ∙ is))
      ];
    }

own_last : (bucket_of : List ℕ → ℕ) (n b : ℕ) (fs : List CountedKey) → bucket_of (key_at fs n) ≡ b → IsLast bucket_of fs b (n + 1) (n + 1)
own_last bucket_of n b fs is = record {
  within = omega arith;
  in_bucket = λ some. rw (add-sub_cancel n 1) is;
  none_after = λ q after less there. omega arith;
}

-- A table with one more entry, for a new key.
pub table_added : (t u : KeyCounts) (k : List ℕ) (e : CountedKey) (bucket : ℕ) → IsTable t → IsNew t k → t.len < length t.entries.now → length k ≤ MAX_KEY_LEN
    → key_in e ≡ k → e.older ≡ slice_index t.newest.now bucket → bucket ≡ bucket_among t.seed (length t.newest.now) k → bucket < length t.newest.now
    → u.entries.now ≡ slice_set t.entries.now t.len e → u.newest.now ≡ slice_set t.newest.now bucket (t.len + 1) → u.len ≡ t.len + 1 → u.seed ≡ t.seed → IsTable u
table_added t u k e bucket table is_new less short is older is_bucket within entries newest len seed =
    let n : ℕ = t.len in
    let es : List CountedKey = t.entries.now in
    let fs : List CountedKey = u.entries.now in
    let m : ℕ = length t.newest.now in
    let B : List ℕ → ℕ = bucket_among t.seed m in
    let S : List CountedKey → Type 0 = λ xs. HaveSameKeys n es xs in
    let same : HaveSameKeys n es fs = subst S (sym entries) (same_when_added n es e) in
    let at_n : entry_at fs n ≡ e = ap (λ (xs : List CountedKey). entry_at xs n) entries ∙ here es n e less in
    let key : key_at fs n ≡ k = ap key_in at_n ∙ is in
    let in_b : B (key_at fs n) ≡ bucket = ap B key ∙ sym is_bucket in
    let as_many : length fs ≡ length es = ap length entries ∙ length-set es n e in
    let n_is : length u.newest.now ≡ m = ap length newest ∙ length-set t.newest.now bucket (n + 1) in
    let few : length es < 2 ^ 32 = table.buckets.few in
    let last : (b : ℕ) → b < m → IsLast B fs b u.len (slice_index u.newest.now b) = λ b below.
    rw (newest, len) (elim (cases_eq b bucket) [
      | inl at ↦
          (let P : ℕ → Type 0 = λ x. IsLast B fs x (n + 1) (slice_index (slice_set t.newest.now bucket (n + 1)) x) in
          let Q : ℕ → Type 0 = λ x. IsLast B fs bucket (n + 1) x in
          subst P (sym at) (subst Q (sym (get_or-set_same t.newest.now bucket (n + 1) 0 within)) (own_last B n bucket fs in_b)))
      | inr other ↦
          (let Q : ℕ → Type 0 = λ x. IsLast B fs b (n + 1) x in
          subst Q (sym (get_or-set_other t.newest.now bucket b (n + 1) 0 other)) (added_last B n bucket b _ es fs same.keys in_b other (table.newest b below)))
    ]) in
    let linked : AreLinked B fs u.len = rw len (record {
      links = λ p below. elim (below_or_at p n below) [
        | inl under ↦ same_linked B n es fs same p under (table.linked.links p under)
        | inr at ↦
            (let P : ℕ → Type 0 = λ x. IsLast B fs (B (key_at fs x)) x (entry_at fs x).older in
            let link : (entry_at fs n).older ≡ slice_index t.newest.now bucket = ap (λ (x : CountedKey). x.older) at_n ∙ older in
            let Q : ℕ → Type 0 = λ x. IsLast B fs (B (key_at fs n)) n x in
            let R : ℕ → Type 0 = λ b. IsLast B fs b n (slice_index t.newest.now bucket) in
            subst P (sym at) (subst Q (sym link) (subst R (sym in_b) (same_last B es fs bucket n _ same.keys (table.newest bucket within)))))
      ];
    }) in
    let P : List ℕ → ℕ → Type 0 = λ s x. (b : ℕ) → b < x → IsLast (bucket_among s x) u.entries.now b u.len (slice_index u.newest.now b) in
    let Q : List ℕ → ℕ → Type 0 = λ s x. AreLinked (bucket_among s x) u.entries.now u.len in
    let some : 0 < m = table.buckets.some in
    record {
      buckets = record { some = omega arith; few = omega arith };
      within = omega arith;
      short = λ p below. elim (below_or_at p n (omega arith)) [
        | inl under ↦ rw (same.keys p under) (table.short p under)
        | inr at ↦ (let R : ℕ → Type 0 = λ x. length (key_at fs x) ≤ MAX_KEY_LEN in subst R (sym at) (rw key short))
      ];
      distinct = λ p q before below there. elim (below_or_at q n (omega arith)) [
        | inl under ↦ table.distinct p q before under (sym (same.keys p (omega arith)) ∙ (there ∙ same.keys q under))
        | inr at ↦ is_new p (omega arith) (sym (same.keys p (omega arith)) ∙ (there ∙ (ap (key_at fs) at ∙ key)))
      ];
      newest = (let R : ℕ → Type 0 = λ x. P u.seed x in subst R (sym n_is) (let T : List ℕ → Type 0 = λ s. P s m in subst T (sym seed) last));
      linked = (let R : ℕ → Type 0 = λ x. Q u.seed x in subst R (sym n_is) (let T : List ℕ → Type 0 = λ s. Q s m in subst T (sym seed) linked));
    }

above_or_below : (a b : ℕ) → a ≢ b → (a < b) ⊎ (b < a)
above_or_below a b apart = search (arith)

-- No other entry has the key of an entry.
pub only : (t : KeyCounts) (p : ℕ) (k : List ℕ) → IsTable t → p < t.len → key_at t.entries.now p ≡ k → (q : ℕ) → q < t.len → q ≢ p → key_at t.entries.now q ≢ k
only t p k table less is q below apart there = elim (above_or_below q p apart) [
  | inl before ↦ table.distinct q p before less (there ∙ sym is)
  | inr after ↦ table.distinct p q after below (is ∙ sym there)
]

-- A table when the key of an entry was counted.
pub found_counts : (t : KeyCounts) (es : List CountedKey) (p m : ℕ) (k : List ℕ) → IsTable t → p < t.len → key_at t.entries.now p ≡ k
    → es ≡ slice_set t.entries.now p (raised_entry (entry_at t.entries.now p) m)
    → record { listed = map counted_in (take t.len es); other = t.other } ≡ counted (length t.entries.now) (counts_in t) k m
found_counts t es p m k table less is entries =
    ap (λ (xs : List CountedKey). record { listed = map counted_in (take t.len xs); other = t.other }) entries
    ∙ counted_at k m t.len p t.other (length t.entries.now) t.entries.now table.within less is (only t p k table less is)

pub found_table : (t u : KeyCounts) (p m : ℕ) → IsTable t → p < t.len → u.entries.now ≡ slice_set t.entries.now p (raised_entry (entry_at t.entries.now p) m)
    → u.newest.now ≡ t.newest.now → u.len ≡ t.len → u.seed ≡ t.seed → IsTable u
found_table t u p m table less entries newest len seed =
    let within : t.len ≤ length t.entries.now = table.within in
    let below : p < length t.entries.now = omega arith in
    let S : List CountedKey → Type 0 = λ xs. HaveSameKeys t.len t.entries.now xs in
    table_with t u table (ap length entries ∙ length-set t.entries.now p _) (subst S (sym entries) (same_when_raised t.len p m t.entries.now below)) newest len seed

-- What a link of a bucket finds.
pub found_used : (t : KeyCounts) (bucket : ℕ) (o : Option ℕ) (k : List ℕ) → bucket < length t.newest.now
    → IfSome o (λ p. (p < slice_index t.newest.now bucket) × (p < length t.entries.now) × (key_at t.entries.now p ≡ k)) → IsTable t → IfSome o (λ p. p < t.len)
found_used t bucket None k within found table = tt
found_used t bucket (Some p) k within found table =
    let link : slice_index t.newest.now bucket ≤ t.len = (table.newest bucket within).within in
    let below : p < slice_index t.newest.now bucket = found.0 in
    omega arith

pub none_found : (t : KeyCounts) (bucket : ℕ) (k : List ℕ) → bucket < length t.newest.now → IsTable t → bucket ≡ bucket_among t.seed (length t.newest.now) k
    → IsLast (bucket_among t.seed (length t.newest.now)) t.entries.now (bucket_among t.seed (length t.newest.now) k) t.len (slice_index t.newest.now bucket)
none_found t bucket k within table is =
    let P : ℕ → Type 0 = λ b. IsLast (bucket_among t.seed (length t.newest.now)) t.entries.now b t.len (slice_index t.newest.now bucket) in
    subst P is (table.newest bucket within)

-- No entry has a key that is too long.
pub none_long : (t : KeyCounts) (k : List ℕ) → IsTable t → MAX_KEY_LEN < length k → IsNew t k
none_long t k table long q less is =
    let short : length (key_at t.entries.now q) ≤ MAX_KEY_LEN = table.short q less in
    let same : length (key_at t.entries.now q) ≡ length k = ap length is in
    omega arith
