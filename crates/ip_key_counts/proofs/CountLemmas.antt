-- Keys counted one after another.
use Rattle.std.proofs.Common.{◌≡◌, ◌≢◌, ℕ, ◌+◌, List, [], ◌∷◌, ◌++◌, Bool, true, false, length, map, refl, sym, ap, ◌∙◌, arith, cond, inl, inr, length-append}
use Rattle.std.specs.Prelude.{nat_lt, nat_le, ◌&&◌, ◌||◌}
use Rattle.std.proofs.lemmas.Bool.{cases_Bool, false≢true}
use Rattle.std.proofs.lemmas.List.Folds.{list_any-append}
use Rattle.std.proofs.lemmas.Bool.Decides.{nat_tests}
use Rattle.ip_key_counts.specs.Counts.{Counted, Counts, added, has_bytes, is_listed, raised, has_room, counted, all_counted}
use Rattle.ip_key_counts.specs.declared.counted_key.TheConstants.{MAX_KEY_LEN}
use Rattle.ip_key_counts.proofs.EntryLemmas.{are_bytes, same_bytes, raised_own, raised_other}

pub all_counted-append : (room : ℕ) (c : Counts) (xs ys : List Counted) → all_counted room c (xs ++ ys) ≡ all_counted room (all_counted room c xs) ys
unfolding all_counted
all_counted-append room c [] ys = refl
all_counted-append room c (x ∷ xs) ys = all_counted-append room (counted room c x.key x.count) xs ys

pub all_counted-one : (room : ℕ) (c : Counts) (e : Counted) → all_counted room c (e ∷ []) ≡ counted room c e.key e.count
unfolding all_counted
all_counted-one room c e = refl

pub all_counted-none : (room : ℕ) (c : Counts) → all_counted room c [] ≡ c
unfolding all_counted
all_counted-none room c = refl

pub added_twice : (a b c : ℕ) → added (added a b) c ≡ added a (added b c)
added_twice a b c = omega arith

pub added_swapped : (a b c : ℕ) → added (added a b) c ≡ added (added a c) b
added_swapped a b c = omega arith

-- Raising an entry keeps its key.
key_by : (b : Bool) (n : ℕ) (e : Counted) → (cond b (record { key = e.key; count = n }) e).key ≡ e.key
key_by true n e = refl
key_by false n e = refl

pub raised_key : (k : List ℕ) (n : ℕ) (e : Counted) → (raised k n e).key ≡ e.key
raised_key k n e = key_by (has_bytes e.key k) (added e.count n) e

pub listed_raised : (j k : List ℕ) (n : ℕ) (es : List Counted) → is_listed j (map (raised k n) es) ≡ is_listed j es
listed_raised j k n [] = refl
listed_raised j k n (e ∷ es) =
    ap (λ (x : List ℕ). has_bytes x j || is_listed j (map (raised k n) es)) (raised_key k n e) ∙ ap (λ (b : Bool). has_bytes e.key j || b) (listed_raised j k n es)

or_right : (b : Bool) → (b || false) ≡ b
or_right true = refl
or_right false = refl

or_left : (a b : Bool) → a ≡ true → (a || b) ≡ true
or_left true b is = refl
or_left false b is = absurd (false≢true is)

or_either : (b : Bool) → (b || true) ≡ true
or_either true = refl
or_either false = refl

neither : (a b : Bool) → (a || b) ≡ false → (a ≡ false) × (b ≡ false)
neither true b is = absurd (false≢true (sym is))
neither false b is = (refl, is)

pub listed_added : (j : List ℕ) (es : List Counted) (e : Counted) → is_listed j (es ++ e ∷ []) ≡ (is_listed j es || has_bytes e.key j)
listed_added j es e = list_any-append (λ (x : Counted). has_bytes x.key j) es (e ∷ []) ∙ ap (λ (b : Bool). is_listed j es || b) (or_right (has_bytes e.key j))

-- Raising a key that isn't listed changes nothing.
pub none_listed : (k : List ℕ) (n : ℕ) (es : List Counted) → is_listed k es ≡ false → map (raised k n) es ≡ es
none_listed k n [] none = refl
none_listed k n (e ∷ es) none =
    let both = neither (has_bytes e.key k) (is_listed k es) none in
    let head = raised_other k n e (λ is. false≢true (sym both.0 ∙ same_bytes e.key k is)) in
    ap (λ (x : Counted). x ∷ map (raised k n) es) head ∙ ap (λ (xs : List Counted). e ∷ xs) (none_listed k n es both.1)

-- Raising twice.
raised_twice_by : (b : Bool) (k : List ℕ) (n m : ℕ) (e : Counted) → has_bytes e.key k ≡ b → raised k m (raised k n e) ≡ raised k (added n m) e
raised_twice_by true k n m e is =
    let same = are_bytes e.key k is in
    ap (raised k m) (raised_own k n e same) ∙ (raised_own k m (record { key = e.key; count = added e.count n }) same ∙ (ap (λ (x : ℕ). record { key = e.key; count = x }) (added_twice e.count n m) ∙ sym (raised_own k (added n m) e same)))
raised_twice_by false k n m e is =
    let apart : e.key ≢ k = λ same. false≢true (sym is ∙ same_bytes e.key k same) in
    ap (raised k m) (raised_other k n e apart) ∙ (raised_other k m e apart ∙ sym (raised_other k (added n m) e apart))

pub raised_twice : (k : List ℕ) (n m : ℕ) (es : List Counted) → map (raised k m) (map (raised k n) es) ≡ map (raised k (added n m)) es
raised_twice k n m [] = refl
raised_twice k n m (e ∷ es) =
    ap (λ (x : Counted). x ∷ map (raised k m) (map (raised k n) es)) (raised_twice_by (has_bytes e.key k) k n m e refl)
    ∙ ap (λ (xs : List Counted). raised k (added n m) e ∷ xs) (raised_twice k n m es)

swapped_by : (a b : Bool) (j k : List ℕ) (m n : ℕ) (e : Counted) → has_bytes e.key j ≡ a → has_bytes e.key k ≡ b → raised j m (raised k n e) ≡ raised k n (raised j m e)
swapped_by true true j k m n e is_j is_k =
    let j_is = are_bytes e.key j is_j in
    let k_is = are_bytes e.key k is_k in
    ap (raised j m) (raised_own k n e k_is)
    ∙ (raised_own j m (record { key = e.key; count = added e.count n }) j_is
    ∙ (ap (λ (x : ℕ). record { key = e.key; count = x }) (added_swapped e.count n m)
    ∙ (sym (raised_own k n (record { key = e.key; count = added e.count m }) k_is) ∙ ap (raised k n) (sym (raised_own j m e j_is)))))
swapped_by true false j k m n e is_j is_k =
    let j_is = are_bytes e.key j is_j in
    let apart : e.key ≢ k = λ same. false≢true (sym is_k ∙ same_bytes e.key k same) in
    ap (raised j m) (raised_other k n e apart)
    ∙ (raised_own j m e j_is ∙ (sym (raised_other k n (record { key = e.key; count = added e.count m }) apart) ∙ ap (raised k n) (sym (raised_own j m e j_is))))
swapped_by false b j k m n e is_j is_k =
    let apart : e.key ≢ j = λ same. false≢true (sym is_j ∙ same_bytes e.key j same) in
    let after : (raised k n e).key ≢ j = λ same. apart (sym (raised_key k n e) ∙ same) in
    raised_other j m (raised k n e) after ∙ ap (raised k n) (sym (raised_other j m e apart))

pub raised_swapped : (j k : List ℕ) (m n : ℕ) (es : List Counted) → map (raised j m) (map (raised k n) es) ≡ map (raised k n) (map (raised j m) es)
raised_swapped j k m n [] = refl
raised_swapped j k m n (e ∷ es) =
    ap (λ (x : Counted). x ∷ map (raised j m) (map (raised k n) es)) (swapped_by (has_bytes e.key j) (has_bytes e.key k) j k m n e refl refl)
    ∙ ap (λ (xs : List Counted). raised k n (raised j m e) ∷ xs) (raised_swapped j k m n es)

-- the three ways in which a key is counted
pub as_listed : (room : ℕ) (c : Counts) (k : List ℕ) (n : ℕ) → is_listed k c.listed ≡ true
    → counted room c k n ≡ record { listed = map (raised k n) c.listed; other = c.other }
as_listed room c k n is = rw is refl

pub as_new : (room : ℕ) (c : Counts) (k : List ℕ) (n : ℕ) → is_listed k c.listed ≡ false → has_room room c.listed k ≡ true
    → counted room c k n ≡ record { listed = c.listed ++ record { key = k; count = n } ∷ []; other = c.other }
as_new room c k n is fits = rw (is, fits) refl

pub as_other : (room : ℕ) (c : Counts) (k : List ℕ) (n : ℕ) → is_listed k c.listed ≡ false → has_room room c.listed k ≡ false
    → counted room c k n ≡ record { listed = c.listed; other = added c.other n }
as_other room c k n is fits = rw (is, fits) refl

pub data Way (room : ℕ) (c : Counts) (k : List ℕ) : Type 0 where
  listed_way : is_listed k c.listed ≡ true → Way room c k
  new_way : is_listed k c.listed ≡ false → has_room room c.listed k ≡ true → Way room c k
  other_way : is_listed k c.listed ≡ false → has_room room c.listed k ≡ false → Way room c k

pub way_of : (room : ℕ) (c : Counts) (k : List ℕ) → Way room c k
way_of room c k = elim (cases_Bool (is_listed k c.listed)) [
  | inl is ↦ listed_way is
  | inr is ↦ elim (cases_Bool (has_room room c.listed k)) [
    | inl fits ↦ new_way is fits
    | inr full ↦ other_way is full
  ]
]

-- the room when a list has as many entries, and when it has one more
pub room_as_many : (room : ℕ) (k : List ℕ) (xs ys : List Counted) → length xs ≡ length ys → has_room room xs k ≡ has_room room ys k
room_as_many room k xs ys len = ap (λ (n : ℕ). nat_lt n room && nat_le (length k) MAX_KEY_LEN) len

less_room_by : (a b s : Bool) → (b ≡ true → a ≡ true) → (a && s) ≡ false → (b && s) ≡ false
less_room_by a false s up none = refl
less_room_by a true s up none = ap (λ (x : Bool). x && s) (sym (up refl)) ∙ none

fewer : (n room : ℕ) → nat_lt (n + 1) room ≡ true → nat_lt n room ≡ true
fewer n room less = grind (arith, nat_tests, less)

pub room_with_one : (room : ℕ) (k : List ℕ) (xs : List Counted) (e : Counted) → has_room room xs k ≡ false → has_room room (xs ++ e ∷ []) k ≡ false
room_with_one room k xs e full =
    ap (λ (n : ℕ). nat_lt n room && nat_le (length k) MAX_KEY_LEN) (length-append xs (e ∷ []))
    ∙ less_room_by (nat_lt (length xs) room) (nat_lt (length xs + 1) room) (nat_le (length k) MAX_KEY_LEN) (fewer (length xs) room) full
