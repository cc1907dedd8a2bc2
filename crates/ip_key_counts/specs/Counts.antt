-- Counts by key, in the order in which the keys were first counted.
use Rattle.std.specs.Prelude.{ℕ, ◌+◌, ◌-◌, ◌^◌, min, nat_lt, nat_le, Bool, ◌&&◌, List, [], ◌∷◌, ◌++◌, length, map, if◌then◌else◌}
use Rattle.std.specs.List.{list_any}
use Rattle.std.specs.Str.{bytes_eq}
use Rattle.ip_key_counts.specs.declared.counted_key.TheConstants.{MAX_KEY_LEN}

-- the sum of two counts, which stops at the largest 64-bit number
abbrev pub added : ℕ → ℕ → ℕ
added a b = min (a + b) (2 ^ 64 - 1)

-- a key, and how often it was counted
pub record Counted : Type 0 where
  pub key : List ℕ
  pub count : ℕ

-- the keys that have an entry, in the order in which they were first counted, and the count of all other keys
pub record Counts : Type 0 where
  pub listed : List Counted
  pub other : ℕ

-- nothing was counted
abbrev pub nothing : Counts
nothing = record { listed = []; other = 0 }

-- Two keys are the same.
abbrev pub has_bytes : List ℕ → List ℕ → Bool
has_bytes a b = bytes_eq a b

-- the key has an entry
abbrev pub is_listed : List ℕ → List Counted → Bool
is_listed k entries = list_any (λ (e : Counted). has_bytes e.key k) entries

-- an entry when a key was counted n times more
abbrev pub raised : List ℕ → ℕ → Counted → Counted
raised k n e = if has_bytes e.key k then record { key = e.key; count = added e.count n } else e

-- There is an entry for one more key among `room`, and the key isn't too long.
abbrev pub has_room : ℕ → List Counted → List ℕ → Bool
has_room room entries k = nat_lt (length entries) room && nat_le (length k) MAX_KEY_LEN

-- the counts when a key was counted n times more, in a table of `room` entries
abbrev pub counted : ℕ → Counts → List ℕ → ℕ → Counts
counted room c k n =
    if is_listed k c.listed then record { listed = map (raised k n) c.listed; other = c.other }
    else if has_room room c.listed k then record { listed = c.listed ++ record { key = k; count = n } ∷ []; other = c.other }
    else record { listed = c.listed; other = added c.other n }

-- when each of these keys was counted as often as it says, one after another
unfoldable pub all_counted : ℕ → Counts → List Counted → Counts
all_counted room c [] = c
all_counted room c (e ∷ entries) = all_counted room (counted room c e.key e.count) entries

-- when other counts were added: their entries in order, and then what they count as other
abbrev pub merged : ℕ → Counts → Counts → Counts
merged room c d =
    record { listed = (all_counted room c d.listed).listed; other = added (all_counted room c d.listed).other d.other }

-- when these keys were counted once each, one after another
unfoldable pub keys_counted : ℕ → Counts → List (List ℕ) → Counts
keys_counted room c [] = c
keys_counted room c (k ∷ keys) = keys_counted room (counted room c k 1) keys

-- all keys of some lists
unfoldable pub flatten : List (List (List ℕ)) → List (List ℕ)
flatten [] = []
flatten (keys ∷ parts) = keys ++ flatten parts

-- when parts were counted apart, each in a table of r entries, and merged in their order
unfoldable pub parts_merged : ℕ → ℕ → Counts → List (List (List ℕ)) → Counts
parts_merged room r c [] = c
parts_merged room r c (keys ∷ parts) = parts_merged room r (merged room c (keys_counted r nothing keys)) parts

-- the sum of all counts
unfoldable pub listed_total : List Counted → ℕ
listed_total [] = 0
listed_total (e ∷ entries) = added e.count (listed_total entries)

abbrev pub total : Counts → ℕ
total c = added (listed_total c.listed) c.other
