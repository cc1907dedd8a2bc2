-- Entries as numbers, and the links between them.
use Rattle.std.specs.Prelude.{replicate, ◌≡◌, ◌≢◌, ℕ, ◌-◌, ◌<◌, ◌≤◌, List, [], take, slice_index_or}
use Rattle.ip_key_counts.specs.Counts.{Counted, added}
use Rattle.ip_key_counts.specs.declared.counted_key.CountedKey.{CountedKey}
use Rattle.ip_key_counts.specs.declared.counted_key.TheConstants.{MAX_KEY_LEN}

-- the key of an entry
abbrev pub key_in : CountedKey → List ℕ
key_in e = take e.len e.bytes

-- the key of an entry, and its count
abbrev pub counted_in : CountedKey → Counted
counted_in e = record { key = key_in e; count = e.count }

-- the entry when its key was counted n times more
abbrev pub raised_entry : CountedKey → ℕ → CountedKey
raised_entry e n = record e { count = added e.count n }

-- no entry
abbrev pub blank : CountedKey
blank = record { count = 0; older = 0; len = 0; bytes = [] }

-- an entry of no use yet
abbrev pub unused_entry : CountedKey
unused_entry = record { count = 0; older = 0; len = 0; bytes = replicate MAX_KEY_LEN 0 }

-- the entry with an index, and its key
abbrev pub entry_at : List CountedKey → ℕ → CountedKey
entry_at entries p = slice_index_or entries p blank

abbrev pub key_at : List CountedKey → ℕ → List ℕ
key_at entries p = key_in (entry_at entries p)

-- The link is one more than the index of the last entry before `end` whose key is in the bucket b, and 0 if there is none.
pub record IsLast (bucket_of : List ℕ → ℕ) (entries : List CountedKey) (b end link : ℕ) : Type 0 where
  pub within : link ≤ end
  pub in_bucket : 0 < link → bucket_of (key_at entries (link - 1)) ≡ b
  pub none_after : (q : ℕ) → link ≤ q → q < end → bucket_of (key_at entries q) ≢ b

-- Each of the first n entries has a link to the last one before it in the bucket of its key.
pub record AreLinked (bucket_of : List ℕ → ℕ) (entries : List CountedKey) (n : ℕ) : Type 0 where
  pub links : (p : ℕ) → p < n → IsLast bucket_of entries (bucket_of (key_at entries p)) p (entry_at entries p).older
