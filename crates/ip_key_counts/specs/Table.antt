-- Tables of entries.
use Rattle.std.specs.Prelude.{◌≢◌, ℕ, ◌%◌, ◌^◌, ◌<◌, ◌≤◌, List, length, map, take, slice_index}
use Rattle.ip_hash.specs.SipHash.{sip_hash}
use Rattle.ip_key_counts.specs.Counts.{Counts}
use Rattle.ip_key_counts.specs.Entry.{counted_in, key_at, IsLast, AreLinked}
use Rattle.ip_key_counts.specs.declared.counted_key.TheConstants.{MAX_KEY_LEN}
use Rattle.ip_key_counts.specs.declared.key_counts.KeyCounts.{KeyCounts}

-- the counts in a table
abbrev pub counts_in : KeyCounts → Counts
counts_in t = record { listed = map counted_in (take t.len t.entries.now); other = t.other }

-- how many entries a table has room for
abbrev pub room_of : KeyCounts → ℕ
room_of t = length t.entries.now

-- the bucket of a key among n
abbrev pub bucket_among : List ℕ → ℕ → List ℕ → ℕ
bucket_among seed n k = sip_hash seed k % n

-- the bucket of a key in a table
abbrev pub bucket_of : KeyCounts → List ℕ → ℕ
bucket_of t k = bucket_among t.seed (length t.newest.now) k

-- There are buckets, and the indexes of entries have 32 bits.
pub record HasBuckets (t : KeyCounts) : Type 0 where
  pub some : 0 < length t.newest.now
  pub few : length t.entries.now < 2 ^ 32

-- The entries in use have different keys, and each is found by the links of its bucket.
pub record IsTable (t : KeyCounts) : Type 0 where
  pub buckets : HasBuckets t
  pub within : t.len ≤ length t.entries.now
  pub short : (p : ℕ) → p < t.len → length (key_at t.entries.now p) ≤ MAX_KEY_LEN
  pub distinct : (p q : ℕ) → p < q → q < t.len → key_at t.entries.now p ≢ key_at t.entries.now q
  pub newest : (b : ℕ) → b < length t.newest.now → IsLast (bucket_of t) t.entries.now b t.len (slice_index t.newest.now b)
  pub linked : AreLinked (bucket_of t) t.entries.now t.len

-- No entry has the key.
abbrev pub IsNew : KeyCounts → List ℕ → Type 0
IsNew t k = (q : ℕ) → q < t.len → key_at t.entries.now q ≢ k
