-- Entries as a list of counts.
use Rattle.std.proofs.Common.{◌≡◌, ◌≢◌, ℕ, ◌+◌, ◌<◌, ◌≤◌, List, [], ◌∷◌, Bool, true, false, length, map, take, refl, sym, ap, ◌∙◌, arith, zero, suc, cond, ◌⊎◌, inl, inr}
use Rattle.std.proofs.lemmas.List.{length-take-le, map-append, length-map, take_more_set}
use Rattle.std.proofs.lemmas.Bool.Decides.{nat_tests}
use Rattle.ip_key_counts.specs.declared.counted_key.TheConstants.{MAX_KEY_LEN}
use Rattle.std.specs.Prelude.{slice_set, nat_lt, nat_le, ◌&&◌, ◌||◌}
use Rattle.std.proofs.lemmas.Slice.Eq.{bytes_eq-Decides}
use Rattle.ip_key_counts.specs.Counts.{Counted, added, has_bytes, is_listed, raised, has_room, counted}
use Rattle.ip_key_counts.specs.Entry.{key_in, counted_in, raised_entry, entry_at, key_at}
use Rattle.ip_key_counts.specs.declared.counted_key.CountedKey.{CountedKey}

pub same_bytes : (a b : List ℕ) → a ≡ b → has_bytes a b ≡ true
same_bytes a b is = (bytes_eq-Decides a b).1 is

pub are_bytes : (a b : List ℕ) → has_bytes a b ≡ true → a ≡ b
are_bytes a b is = (bytes_eq-Decides a b).0 is

either : (b : Bool) → (b ≡ true → ⊥) → b ≡ false
either true differs = absurd (differs refl)
either false differs = refl

pub other_bytes : (a b : List ℕ) → a ≢ b → has_bytes a b ≡ false
other_bytes a b apart = either (has_bytes a b) (λ is. apart (are_bytes a b is))

-- the entries that a key leaves as they are
pub raised_other : (k : List ℕ) (n : ℕ) (e : Counted) → e.key ≢ k → raised k n e ≡ e
raised_other k n e apart = ap (λ (b : Bool). cond b (record { key = e.key; count = added e.count n }) e) (other_bytes e.key k apart)

pub raised_own : (k : List ℕ) (n : ℕ) (e : Counted) → e.key ≡ k → raised k n e ≡ record { key = e.key; count = added e.count n }
raised_own k n e is = ap (λ (b : Bool). cond b (record { key = e.key; count = added e.count n }) e) (same_bytes e.key k is)

nat_lt_true : (a b : ℕ) → a < b → nat_lt a b ≡ true
nat_lt_true a b less = grind (arith, nat_tests, less)

nat_lt_false : (a b : ℕ) → b ≤ a → nat_lt a b ≡ false
nat_lt_false a b less = grind (arith, nat_tests, less)

nat_le_true : (a b : ℕ) → a ≤ b → nat_le a b ≡ true
nat_le_true a b less = grind (arith, nat_tests, less)

nat_le_false : (a b : ℕ) → b < a → nat_le a b ≡ false
nat_le_false a b less = grind (arith, nat_tests, less)

and_false : (b : Bool) → (b && false) ≡ false
and_false true = refl
and_false false = refl

-- A key is listed exactly if an entry has it.
pub not_listed : (k : List ℕ) (n : ℕ) (es : List CountedKey) → n ≤ length es → ((q : ℕ) → q < n → key_at es q ≢ k) → is_listed k (map counted_in (take n es)) ≡ false
not_listed k zero es within none = refl
not_listed k (suc n) [] within none = absurd (omega arith)
not_listed k (suc n) (e ∷ es) within none =
    rw (other_bytes (key_in e) k (none 0 (omega arith))) (not_listed k n es (omega arith) (λ q less. none (suc q) (omega arith)))

or_true : (b : Bool) → (b || true) ≡ true
or_true true = refl
or_true false = refl

pub is_listed_at : (k : List ℕ) (n p : ℕ) (es : List CountedKey) → n ≤ length es → p < n → key_at es p ≡ k → is_listed k (map counted_in (take n es)) ≡ true
is_listed_at k zero p es within less is = absurd (omega arith)
is_listed_at k (suc n) p [] within less is = absurd (omega arith)
is_listed_at k (suc n) zero (e ∷ es) within less is = rw (same_bytes (key_in e) k is) refl
is_listed_at k (suc n) (suc p) (e ∷ es) within less is =
    rw (is_listed_at k n p es (omega arith) (omega arith) is) (or_true (has_bytes (key_in e) k))

-- Raising a key that no entry has changes nothing.
pub none_raised : (k : List ℕ) (m n : ℕ) (es : List CountedKey) → n ≤ length es → ((q : ℕ) → q < n → key_at es q ≢ k) → map (raised k m) (map counted_in (take n es)) ≡ map counted_in (take n es)
none_raised k m zero es within none = refl
none_raised k m (suc n) [] within none = absurd (omega arith)
none_raised k m (suc n) (e ∷ es) within none =
    let head = raised_other k m (counted_in e) (none 0 (omega arith)) in
    let rest = none_raised k m n es (omega arith) (λ q less. none (suc q) (omega arith)) in
    ap (λ (x : Counted). x ∷ map (raised k m) (map counted_in (take n es))) head ∙ ap (λ (xs : List Counted). counted_in e ∷ xs) rest

-- Raising the entry of a key, which no other entry has.
pub one_raised : (k : List ℕ) (m n p : ℕ) (es : List CountedKey) → n ≤ length es → p < n → key_at es p ≡ k → ((q : ℕ) → q < n → q ≢ p → key_at es q ≢ k)
    → map (raised k m) (map counted_in (take n es)) ≡ map counted_in (take n (slice_set es p (raised_entry (entry_at es p) m)))
one_raised k m zero p es within less is others = absurd (omega arith)
one_raised k m (suc n) p [] within less is others = absurd (omega arith)
one_raised k m (suc n) zero (e ∷ es) within less is others =
    let head = raised_own k m (counted_in e) is in
    let rest = none_raised k m n es (omega arith) (λ q below. others (suc q) (omega arith) (λ z. omega arith)) in
    ap (λ (x : Counted). x ∷ map (raised k m) (map counted_in (take n es))) head ∙ ap (λ (xs : List Counted). record { key = key_in e; count = added e.count m } ∷ xs) rest
one_raised k m (suc n) (suc p) (e ∷ es) within less is others =
    let head = raised_other k m (counted_in e) (others 0 (omega arith) (λ z. omega arith)) in
    let rest = one_raised k m n p es (omega arith) (omega arith) is (λ q below apart. others (suc q) (omega arith) (λ z. apart (omega arith))) in
    ap (λ (x : Counted). x ∷ map (raised k m) (map counted_in (take n es))) head ∙ ap (λ (xs : List Counted). counted_in e ∷ xs) rest

-- the counts when the key of an entry was counted
pub counted_at : (k : List ℕ) (m n p other room : ℕ) (es : List CountedKey) → n ≤ length es → p < n → key_at es p ≡ k → ((q : ℕ) → q < n → q ≢ p → key_at es q ≢ k)
    → record { listed = map counted_in (take n (slice_set es p (raised_entry (entry_at es p) m))); other = other }
    ≡ counted room (record { listed = map counted_in (take n es); other = other }) k m
counted_at k m n p other room es within less is others =
    ap (λ (xs : List Counted). record { listed = xs; other = other }) (sym (one_raised k m n p es within less is others))
    ∙ rw (is_listed_at k n p es within less is) refl

-- when a new key got an entry
pub counted_new : (k : List ℕ) (m n other : ℕ) (es : List CountedKey) (e : CountedKey) → n < length es → length k ≤ MAX_KEY_LEN → key_in e ≡ k → e.count ≡ m
    → ((q : ℕ) → q < n → key_at es q ≢ k)
    → record { listed = map counted_in (take (n + 1) (slice_set es n e)); other = other }
    ≡ counted (length es) (record { listed = map counted_in (take n es); other = other }) k m
counted_new k m n other es e less short is count none =
    let len : length (map counted_in (take n es)) ≡ n = length-map (take n es) counted_in ∙ length-take-le n es (omega arith) in
    let fits : nat_lt (length (map counted_in (take n es))) (length es) ≡ true = rw len (nat_lt_true n (length es) less) in
    let is_short : nat_le (length k) MAX_KEY_LEN ≡ true = nat_le_true (length k) MAX_KEY_LEN short in
    rw (not_listed k n es (omega arith) none, fits, is_short)
    (ap (λ (xs : List Counted). record { listed = xs; other = other })
    (ap (map counted_in) (take_more_set es n e less) ∙ (map-append counted_in (take n es) (e ∷ []) ∙ rw (is, count) refl)))

-- when a new key got none
pub counted_other : (k : List ℕ) (m n other : ℕ) (es : List CountedKey) → n ≤ length es → ((q : ℕ) → q < n → key_at es q ≢ k)
    → (n ≡ length es) ⊎ (MAX_KEY_LEN < length k)
    → record { listed = map counted_in (take n es); other = added other m }
    ≡ counted (length es) (record { listed = map counted_in (take n es); other = other }) k m
counted_other k m n other es within none full =
    let len : length (map counted_in (take n es)) ≡ n = length-map (take n es) counted_in ∙ length-take-le n es within in
    let refused : has_room (length es) (map counted_in (take n es)) k ≡ false = elim full [
      | inl all ↦ (let f : nat_lt (length (map counted_in (take n es))) (length es) ≡ false = rw len (nat_lt_false n (length es) (omega arith)) in rw f refl)
      | inr long ↦ rw (nat_le_false (length k) MAX_KEY_LEN long) (and_false (nat_lt (length (map counted_in (take n es))) (length es)))
    ] in
    rw (not_listed k n es within none, refused) refl
