-- Entries that are found by their links.
use Rattle.std.proofs.Common.{◌≡◌, ℕ, ◌-◌, ◌<◌, ◌≤◌, List}
use Rattle.ip_key_counts.specs.Entry.{key_at}
use Rattle.ip_key_counts.specs.declared.counted_key.CountedKey.{CountedKey}

-- Of the first n entries, each one with the key k is before `left`, which leads on to the bucket of k.
pub record Reaches (bucket_of : List ℕ → ℕ) (entries : List CountedKey) (n : ℕ) (k : List ℕ) (left : ℕ) : Type 0 where
  pub within : left ≤ n
  pub in_bucket : 0 < left → bucket_of (key_at entries (left - 1)) ≡ bucket_of k
  pub each : (q : ℕ) → q < n → key_at entries q ≡ k → q < left
