-- Counts of lists that were counted apart.
use Rattle.std.proofs.Common.{◌≡◌, ◌≢◌, ℕ, ◌^◌, ◌<◌, List, [], ◌∷◌, ◌++◌, Bool, true, false, map, refl, sym, ap, ◌∙◌, subst, arith, inl, inr, suc, ◌⊎◌}
use Rattle.std.specs.Prelude.{◌||◌, ⊤, All}
use Rattle.std.proofs.lemmas.Bool.{cases_Bool, false≢true}
use Rattle.std.proofs.lemmas.List.{map-append, length-map}
use Rattle.ip_key_counts.specs.Counts.{Counted, Counts, nothing, added, has_bytes, is_listed, raised, has_room, counted, all_counted, merged, keys_counted, parts_merged, flatten}
use Rattle.ip_key_counts.proofs.EntryLemmas.{are_bytes, same_bytes, other_bytes, raised_own, raised_other}
use Rattle.ip_key_counts.proofs.CountLemmas.{Way, listed_way, new_way, other_way, way_of, as_listed, as_new, as_other, added_twice, added_swapped, raised_key, listed_raised, listed_added, none_listed, raised_twice, raised_swapped, room_as_many, room_with_one, all_counted-append, all_counted-one}

-- Where a key is counted doesn't change any more: it is listed, or there is no room for it.
abbrev pub IsSettled : ℕ → List ℕ → Counts → Type 0
IsSettled room k c = (is_listed k c.listed ≡ true) ⊎ ((is_listed k c.listed ≡ false) × (has_room room c.listed k ≡ false))

either_true : (b : Bool) → (b || true) ≡ true
either_true true = refl
either_true false = refl

kept_true : (a b : Bool) → a ≡ true → (a || b) ≡ true
kept_true true b is = refl
kept_true false b is = absurd (false≢true is)

both_false : (a b : Bool) → a ≡ false → b ≡ false → (a || b) ≡ false
both_false a b p q = rw (p, q) refl

own_listed : (k : List ℕ) (n : ℕ) (es : List Counted) → is_listed k (es ++ record { key = k; count = n } ∷ []) ≡ true
own_listed k n es =
    listed_added k es (record { key = k; count = n })
    ∙ (ap (λ (b : Bool). is_listed k es || b) (same_bytes k k refl) ∙ either_true (is_listed k es))

-- After a key was counted, it is settled, and stays so.
pub settled_then : (room : ℕ) (c : Counts) (k : List ℕ) (n : ℕ) → IsSettled room k (counted room c k n)
settled_then room c k n = elim (way_of room c k) [
  | listed_way is ↦ inl (ap (λ (d : Counts). is_listed k d.listed) (as_listed room c k n is) ∙ (listed_raised k k n c.listed ∙ is))
  | new_way is fits ↦ inl (ap (λ (d : Counts). is_listed k d.listed) (as_new room c k n is fits) ∙ own_listed k n c.listed)
  | other_way is full ↦
      inr (ap (λ (d : Counts). is_listed k d.listed) (as_other room c k n is full) ∙ is, ap (λ (d : Counts). has_room room d.listed k) (as_other room c k n is full) ∙ full)
]

-- An entry that is added for one key is of no other.
apart_listed : (j k : List ℕ) (es : List Counted) → is_listed k es ≡ true → is_listed j es ≡ false → j ≢ k
apart_listed j k es k_is j_is same = false≢true (sym j_is ∙ (ap (λ (x : List ℕ). is_listed x es) same ∙ k_is))

apart_room : (room : ℕ) (j k : List ℕ) (es : List Counted) → has_room room es j ≡ true → has_room room es k ≡ false → j ≢ k
apart_room room j k es fits full same = false≢true (sym full ∙ (ap (has_room room es) (sym same) ∙ fits))

pub settled_still : (room : ℕ) (c : Counts) (j k : List ℕ) (m : ℕ) → IsSettled room k c → IsSettled room k (counted room c j m)
settled_still room c j k m settled = elim settled [
  | inl is ↦ elim (way_of room c j) [
    | listed_way j_is ↦ inl (ap (λ (d : Counts). is_listed k d.listed) (as_listed room c j m j_is) ∙ (listed_raised k j m c.listed ∙ is))
    | new_way j_is fits ↦
        inl (ap (λ (d : Counts). is_listed k d.listed) (as_new room c j m j_is fits) ∙ (listed_added k c.listed (record { key = j; count = m }) ∙ kept_true _ _ is))
    | other_way j_is full ↦ inl (ap (λ (d : Counts). is_listed k d.listed) (as_other room c j m j_is full) ∙ is)
  ]
  | inr none ↦ elim (way_of room c j) [
    | listed_way j_is ↦
        inr (
          ap (λ (d : Counts). is_listed k d.listed) (as_listed room c j m j_is) ∙ (listed_raised k j m c.listed ∙ none.0),
          ap (λ (d : Counts). has_room room d.listed k) (as_listed room c j m j_is) ∙ (room_as_many room k (map (raised j m) c.listed) c.listed (length-map c.listed (raised j m)) ∙ none.1),
        )
    | new_way j_is fits ↦
        inr (
          ap (λ (d : Counts). is_listed k d.listed) (as_new room c j m j_is fits)
              ∙ (listed_added k c.listed (record { key = j; count = m }) ∙ both_false _ _ none.0 (other_bytes j k (apart_room room j k c.listed fits none.1))),
          ap (λ (d : Counts). has_room room d.listed k) (as_new room c j m j_is fits) ∙ room_with_one room k c.listed (record { key = j; count = m }) none.1,
        )
    | other_way j_is full ↦
        inr (ap (λ (d : Counts). is_listed k d.listed) (as_other room c j m j_is full) ∙ none.0, ap (λ (d : Counts). has_room room d.listed k) (as_other room c j m j_is full) ∙ none.1)
  ]
]

-- A key that is counted twice.
pub counted_twice : (room : ℕ) (c : Counts) (k : List ℕ) (n m : ℕ) → counted room (counted room c k n) k m ≡ counted room c k (added n m)
counted_twice room c k n m = elim (way_of room c k) [
  | listed_way is ↦
      (let once = as_listed room c k n is in
      let still : is_listed k (map (raised k n) c.listed) ≡ true = listed_raised k k n c.listed ∙ is in
      ap (λ (d : Counts). counted room d k m) once
      ∙ (as_listed room (record { listed = map (raised k n) c.listed; other = c.other }) k m still
      ∙ (ap (λ (xs : List Counted). record { listed = xs; other = c.other }) (raised_twice k n m c.listed) ∙ sym (as_listed room c k (added n m) is))))
  | new_way is fits ↦
      (let once = as_new room c k n is fits in
      let e : Counted = record { key = k; count = n } in
      let raised_all : map (raised k m) (c.listed ++ e ∷ []) ≡ c.listed ++ record { key = k; count = added n m } ∷ [] =
      map-append (raised k m) c.listed (e ∷ [])
      ∙ (ap (λ (xs : List Counted). xs ++ raised k m e ∷ []) (none_listed k m c.listed is) ∙ ap (λ (x : Counted). c.listed ++ x ∷ []) (raised_own k m e refl)) in
      ap (λ (d : Counts). counted room d k m) once
      ∙ (as_listed room (record { listed = c.listed ++ e ∷ []; other = c.other }) k m (own_listed k n c.listed)
      ∙ (ap (λ (xs : List Counted). record { listed = xs; other = c.other }) raised_all ∙ sym (as_new room c k (added n m) is fits))))
  | other_way is full ↦
      (ap (λ (d : Counts). counted room d k m) (as_other room c k n is full)
      ∙ (as_other room (record { listed = c.listed; other = added c.other n }) k m is full
      ∙ (ap (λ (x : ℕ). record { listed = c.listed; other = x }) (added_twice c.other n m) ∙ sym (as_other room c k (added n m) is full))))
]

-- A settled key and another one are counted in either order.
swapped_listed : (room : ℕ) (c : Counts) (j k : List ℕ) (m n : ℕ) → is_listed k c.listed ≡ true → Way room c j
    → counted room (counted room c k n) j m ≡ counted room (counted room c j m) k n
swapped_listed room c j k m n is (listed_way j_is) =
    let still_j : is_listed j (map (raised k n) c.listed) ≡ true = listed_raised j k n c.listed ∙ j_is in
    let still_k : is_listed k (map (raised j m) c.listed) ≡ true = listed_raised k j m c.listed ∙ is in
    ap (λ (d : Counts). counted room d j m) (as_listed room c k n is)
    ∙ (as_listed room (record { listed = map (raised k n) c.listed; other = c.other }) j m still_j
    ∙ (ap (λ (xs : List Counted). record { listed = xs; other = c.other }) (raised_swapped j k m n c.listed)
    ∙ (sym (as_listed room (record { listed = map (raised j m) c.listed; other = c.other }) k n still_k) ∙ ap (λ (d : Counts). counted room d k n) (sym (as_listed room c j m j_is)))))
swapped_listed room c j k m n is (new_way j_is fits) =
    let e : Counted = record { key = j; count = m } in
    let still_j : is_listed j (map (raised k n) c.listed) ≡ false = listed_raised j k n c.listed ∙ j_is in
    let still_fits : has_room room (map (raised k n) c.listed) j ≡ true = room_as_many room j _ _ (length-map c.listed (raised k n)) ∙ fits in
    let still_k : is_listed k (c.listed ++ e ∷ []) ≡ true = listed_added k c.listed e ∙ kept_true _ _ is in
    let all : map (raised k n) (c.listed ++ e ∷ []) ≡ map (raised k n) c.listed ++ e ∷ [] =
    map-append (raised k n) c.listed (e ∷ []) ∙ ap (λ (x : Counted). map (raised k n) c.listed ++ x ∷ []) (raised_other k n e (apart_listed j k c.listed is j_is)) in
    ap (λ (d : Counts). counted room d j m) (as_listed room c k n is)
    ∙ (as_new room (record { listed = map (raised k n) c.listed; other = c.other }) j m still_j still_fits
    ∙ (ap (λ (xs : List Counted). record { listed = xs; other = c.other }) (sym all)
    ∙ (sym (as_listed room (record { listed = c.listed ++ e ∷ []; other = c.other }) k n still_k) ∙ ap (λ (d : Counts). counted room d k n) (sym (as_new room c j m j_is fits)))))
swapped_listed room c j k m n is (other_way j_is full) =
    let still_j : is_listed j (map (raised k n) c.listed) ≡ false = listed_raised j k n c.listed ∙ j_is in
    let still_full : has_room room (map (raised k n) c.listed) j ≡ false = room_as_many room j _ _ (length-map c.listed (raised k n)) ∙ full in
    ap (λ (d : Counts). counted room d j m) (as_listed room c k n is)
    ∙ (as_other room (record { listed = map (raised k n) c.listed; other = c.other }) j m still_j still_full
    ∙ (sym (as_listed room (record { listed = c.listed; other = added c.other m }) k n is) ∙ ap (λ (d : Counts). counted room d k n) (sym (as_other room c j m j_is full))))

swapped_full : (room : ℕ) (c : Counts) (j k : List ℕ) (m n : ℕ) → is_listed k c.listed ≡ false → has_room room c.listed k ≡ false → Way room c j
    → counted room (counted room c k n) j m ≡ counted room (counted room c j m) k n
swapped_full room c j k m n none no_room (listed_way j_is) =
    let still_k : is_listed k (map (raised j m) c.listed) ≡ false = listed_raised k j m c.listed ∙ none in
    let still_full : has_room room (map (raised j m) c.listed) k ≡ false = room_as_many room k _ _ (length-map c.listed (raised j m)) ∙ no_room in
    ap (λ (d : Counts). counted room d j m) (as_other room c k n none no_room)
    ∙ (as_listed room (record { listed = c.listed; other = added c.other n }) j m j_is
    ∙ (sym (as_other room (record { listed = map (raised j m) c.listed; other = c.other }) k n still_k still_full) ∙ ap (λ (d : Counts). counted room d k n) (sym (as_listed room c j m j_is))))
swapped_full room c j k m n none no_room (new_way j_is fits) =
    let e : Counted = record { key = j; count = m } in
    let still_k : is_listed k (c.listed ++ e ∷ []) ≡ false =
    listed_added k c.listed e ∙ both_false _ _ none (other_bytes j k (apart_room room j k c.listed fits no_room)) in
    ap (λ (d : Counts). counted room d j m) (as_other room c k n none no_room)
    ∙ (as_new room (record { listed = c.listed; other = added c.other n }) j m j_is fits
    ∙ (sym (as_other room (record { listed = c.listed ++ e ∷ []; other = c.other }) k n still_k (room_with_one room k c.listed e no_room))
    ∙ ap (λ (d : Counts). counted room d k n) (sym (as_new room c j m j_is fits))))
swapped_full room c j k m n none no_room (other_way j_is full) =
    ap (λ (d : Counts). counted room d j m) (as_other room c k n none no_room)
    ∙ (as_other room (record { listed = c.listed; other = added c.other n }) j m j_is full
    ∙ (ap (λ (x : ℕ). record { listed = c.listed; other = x }) (added_swapped c.other n m)
    ∙ (sym (as_other room (record { listed = c.listed; other = added c.other m }) k n none no_room) ∙ ap (λ (d : Counts). counted room d k n) (sym (as_other room c j m j_is full)))))

pub counted_swapped : (room : ℕ) (c : Counts) (j k : List ℕ) (m n : ℕ) → IsSettled room k c → counted room (counted room c k n) j m ≡ counted room (counted room c j m) k n
counted_swapped room c j k m n settled = elim settled [
  | inl is ↦ swapped_listed room c j k m n is (way_of room c j)
  | inr none ↦ swapped_full room c j k m n none.0 none.1 (way_of room c j)
]

-- A settled key may be counted after other entries.
pub counted_after : (room : ℕ) (c : Counts) (k : List ℕ) (n : ℕ) (es : List Counted) → IsSettled room k c → all_counted room (counted room c k n) es ≡ counted room (all_counted room c es) k n
unfolding all_counted
counted_after room c k n [] settled = refl
counted_after room c k n (e ∷ es) settled =
    ap (λ (d : Counts). all_counted room d es) (counted_swapped room c e.key k e.count n settled)
    ∙ counted_after room (counted room c e.key e.count) k n es (settled_still room c e.key k e.count settled)

-- No key has two entries.
abbrev pub AreDistinct : List Counted → Type 0
AreDistinct [] = ⊤
AreDistinct (e ∷ es) = (is_listed e.key es ≡ false) × AreDistinct es

distinct_raised : (k : List ℕ) (n : ℕ) (es : List Counted) → AreDistinct es → AreDistinct (map (raised k n) es)
distinct_raised k n [] distinct = tt
distinct_raised k n (e ∷ es) distinct =
    (ap (λ (x : List ℕ). is_listed x (map (raised k n) es)) (raised_key k n e) ∙ (listed_raised e.key k n es ∙ distinct.0), distinct_raised k n es distinct.1)

neither : (a b : Bool) → (a || b) ≡ false → (a ≡ false) × (b ≡ false)
neither true b is = absurd (false≢true (sym is))
neither false b is = (refl, is)

distinct_added : (es : List Counted) (e : Counted) → AreDistinct es → is_listed e.key es ≡ false → AreDistinct (es ++ e ∷ [])
distinct_added [] e distinct none = (refl, tt)
distinct_added (x ∷ es) e distinct none =
    let parts = neither (has_bytes x.key e.key) (is_listed e.key es) none in
    let apart : e.key ≢ x.key = λ same. false≢true (sym parts.0 ∙ same_bytes x.key e.key (sym same)) in
    (listed_added x.key es e ∙ both_false _ _ distinct.0 (other_bytes e.key x.key apart), distinct_added es e distinct.1 parts.1)

pub distinct_counted : (room : ℕ) (c : Counts) (k : List ℕ) (n : ℕ) → AreDistinct c.listed → AreDistinct (counted room c k n).listed
distinct_counted room c k n distinct =
    let P : Counts → Type 0 = λ d. AreDistinct d.listed in
    elim (way_of room c k) [
      | listed_way is ↦ subst P (sym (as_listed room c k n is)) (distinct_raised k n c.listed distinct)
      | new_way is fits ↦ subst P (sym (as_new room c k n is fits)) (distinct_added c.listed (record { key = k; count = n }) distinct is)
      | other_way is full ↦ subst P (sym (as_other room c k n is full)) distinct
    ]

-- Of distinct entries, one that is raised may be raised after them.
raised_in_by : (room : ℕ) (c : Counts) (k : List ℕ) (m : ℕ) (e : Counted) (es : List Counted) → AreDistinct (e ∷ es) → e.key ≡ k
    → all_counted room c (map (raised k m) (e ∷ es)) ≡ counted room (all_counted room c (e ∷ es)) k m
unfolding all_counted
raised_in_by room c k m e es distinct same =
    let none : is_listed k es ≡ false = ap (λ (x : List ℕ). is_listed x es) (sym same) ∙ distinct.0 in
    let once : Counts = counted room c e.key e.count in
    ap (λ (xs : List Counted). all_counted room c (raised k m e ∷ xs)) (none_listed k m es none)
    ∙ (ap (λ (x : Counted). all_counted room c (x ∷ es)) (raised_own k m e same)
    ∙ (ap (λ (d : Counts). all_counted room d es) (sym (counted_twice room c e.key e.count m))
    ∙ (counted_after room once e.key m es (settled_then room c e.key e.count) ∙ ap (λ (x : List ℕ). counted room (all_counted room once es) x m) same)))

pub right_true : (a b : Bool) → a ≡ false → (a || b) ≡ true → b ≡ true
right_true true b is both = absurd (false≢true (sym is))
right_true false b is both = both

pub raised_in : (room : ℕ) (c : Counts) (k : List ℕ) (m : ℕ) (es : List Counted) → AreDistinct es → is_listed k es ≡ true
    → all_counted room c (map (raised k m) es) ≡ counted room (all_counted room c es) k m
unfolding all_counted
raised_in room c k m [] distinct is = absurd (false≢true is)
raised_in room c k m (e ∷ es) distinct is = elim (cases_Bool (has_bytes e.key k)) [
  | inl same ↦ raised_in_by room c k m e es distinct (are_bytes e.key k same)
  | inr differs ↦
      (let apart : e.key ≢ k = λ same. false≢true (sym differs ∙ same_bytes e.key k same) in
      ap (λ (x : Counted). all_counted room (counted room c x.key x.count) (map (raised k m) es)) (raised_other k m e apart)
      ∙ raised_in room (counted room c e.key e.count) k m es distinct.1 (right_true _ _ differs is))
]

-- What is counted as other may be added before or after a key.
other_moves : (room : ℕ) (c : Counts) (o : ℕ) (k : List ℕ) (m : ℕ) → counted room (record { listed = c.listed; other = added c.other o }) k m
    ≡ record { listed = (counted room c k m).listed; other = added (counted room c k m).other o }
other_moves room c o k m =
    let finished : Counts → Counts = λ d. record { listed = d.listed; other = added d.other o } in
    elim (way_of room c k) [
      | listed_way is ↦ as_listed room (finished c) k m is ∙ ap finished (sym (as_listed room c k m is))
      | new_way is fits ↦ as_new room (finished c) k m is fits ∙ ap finished (sym (as_new room c k m is fits))
      | other_way is full ↦
          (as_other room (finished c) k m is full
          ∙ (ap (λ (x : ℕ). record { listed = c.listed; other = x }) (added_swapped c.other o m) ∙ ap finished (sym (as_other room c k m is full))))
    ]

-- The key has an entry, or gets one.
pub data Fits (room : ℕ) (c : Counts) (k : List ℕ) : Type 0 where
  fits_listed : is_listed k c.listed ≡ true → Fits room c k
  fits_new : is_listed k c.listed ≡ false → has_room room c.listed k ≡ true → Fits room c k

pub merged_counted : (room r : ℕ) (c d : Counts) (k : List ℕ) (m : ℕ) → AreDistinct d.listed → Fits r d k
    → merged room c (counted r d k m) ≡ counted room (merged room c d) k m
merged_counted room r c d k m distinct (fits_listed is) =
    let finished : Counts → Counts = λ x. record { listed = x.listed; other = added x.other d.other } in
    ap (merged room c) (as_listed r d k m is)
    ∙ (ap finished (raised_in room c k m d.listed distinct is) ∙ sym (other_moves room (all_counted room c d.listed) d.other k m))
merged_counted room r c d k m distinct (fits_new is fits) =
    let finished : Counts → Counts = λ x. record { listed = x.listed; other = added x.other d.other } in
    let e : Counted = record { key = k; count = m } in
    ap (merged room c) (as_new r d k m is fits)
    ∙ (ap finished (all_counted-append room c d.listed (e ∷ []) ∙ all_counted-one room (all_counted room c d.listed) e)
    ∙ sym (other_moves room (all_counted room c d.listed) d.other k m))

-- Where nothing is counted as other, each key has an entry.
other_by : (room : ℕ) (c : Counts) (k : List ℕ) → (counted room c k 1).other ≡ 0 → Way room c k → (c.other ≡ 0) × Fits room c k
other_by room c k none (listed_way is) = (sym (ap (λ (d : Counts). d.other) (as_listed room c k 1 is)) ∙ none, fits_listed is)
other_by room c k none (new_way is fits) = (sym (ap (λ (d : Counts). d.other) (as_new room c k 1 is fits)) ∙ none, fits_new is fits)
other_by room c k none (other_way is full) =
    let more : added c.other 1 ≡ 0 = sym (ap (λ (d : Counts). d.other) (as_other room c k 1 is full)) ∙ none in
    absurd (omega (arith, more))

pub other_before : (room : ℕ) (c : Counts) (keys : List (List ℕ)) → (keys_counted room c keys).other ≡ 0 → c.other ≡ 0
unfolding keys_counted
other_before room c [] none = none
other_before room c (k ∷ keys) none = (other_by room c k (other_before room (counted room c k 1) keys none) (way_of room c k)).0

pub keys_merged : (room r : ℕ) (c d : Counts) (keys : List (List ℕ)) → AreDistinct d.listed → (keys_counted r d keys).other ≡ 0
    → merged room c (keys_counted r d keys) ≡ keys_counted room (merged room c d) keys
unfolding keys_counted
keys_merged room r c d [] distinct none = refl
keys_merged room r c d (k ∷ keys) distinct none =
    let fits = (other_by r d k (other_before r (counted r d k 1) keys none) (way_of r d k)).1 in
    keys_merged room r c (counted r d k 1) keys (distinct_counted r d k 1 distinct) none
    ∙ ap (λ (x : Counts). keys_counted room x keys) (merged_counted room r c d k 1 distinct fits)

pub merged_nothing : (room : ℕ) (c : Counts) → c.other < 2 ^ 64 → merged room c nothing ≡ c
unfolding all_counted
merged_nothing room c small = let e : added c.other 0 ≡ c.other = omega (arith, small) in ap (λ (x : ℕ). record { listed = c.listed; other = x }) e

pub keys_merged_all : (room r : ℕ) (c : Counts) (keys : List (List ℕ)) → c.other < 2 ^ 64 → (keys_counted r nothing keys).other ≡ 0
    → merged room c (keys_counted r nothing keys) ≡ keys_counted room c keys
keys_merged_all room r c keys small none = keys_merged room r c nothing keys tt none ∙ ap (λ (x : Counts). keys_counted room x keys) (merged_nothing room c small)

-- Counts stay below the limit.
small_by : (room : ℕ) (c : Counts) (k : List ℕ) (n : ℕ) → c.other < 2 ^ 64 → Way room c k → (counted room c k n).other < 2 ^ 64
small_by room c k n small (listed_way is) = let e = ap (λ (d : Counts). d.other) (as_listed room c k n is) in omega (arith, e, small)
small_by room c k n small (new_way is fits) = let e = ap (λ (d : Counts). d.other) (as_new room c k n is fits) in omega (arith, e, small)
small_by room c k n small (other_way is full) = let e = ap (λ (d : Counts). d.other) (as_other room c k n is full) in omega (arith, e)

pub small_keys : (room : ℕ) (c : Counts) (keys : List (List ℕ)) → c.other < 2 ^ 64 → (keys_counted room c keys).other < 2 ^ 64
unfolding keys_counted
small_keys room c [] small = small
small_keys room c (k ∷ keys) small = small_keys room (counted room c k 1) keys (small_by room c k 1 small (way_of room c k))

pub keys_append : (room : ℕ) (c : Counts) (xs ys : List (List ℕ)) → keys_counted room c (xs ++ ys) ≡ keys_counted room (keys_counted room c xs) ys
unfolding keys_counted
keys_append room c [] ys = refl
keys_append room c (k ∷ xs) ys = keys_append room (counted room c k 1) xs ys

-- all parts
pub parts_are_all : (room r : ℕ) (c : Counts) (parts : List (List (List ℕ))) → c.other < 2 ^ 64 → All (λ keys. (keys_counted r nothing keys).other ≡ 0) parts
    → parts_merged room r c parts ≡ keys_counted room c (flatten parts)
unfolding parts_merged flatten keys_counted
parts_are_all room r c [] small none = refl
parts_are_all room r c (keys ∷ parts) small none =
    ap (λ (x : Counts). parts_merged room r x parts) (keys_merged_all room r c keys small (none 0 keys (omega arith)))
    ∙ (parts_are_all room r (keys_counted room c keys) parts (small_keys room c keys small) (λ i d less. none (suc i) d (omega arith))
    ∙ sym (keys_append room c keys (flatten parts)))
