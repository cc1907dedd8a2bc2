-- A table of places, each of which is free, or in use and then in the chain of a bucket.
use Rattle.std.specs.Prelude.{◌≡◌, ◌==◌, ℕ, ◌+◌, ◌<◌, ◌≤◌, ◌^◌, ◌↔◌, ◌⊎◌, List, [], length, Contains, if◌then◌else◌}
use Rattle.std.specs.List.{filter}
use Rattle.ip_lists.specs.Lists.{AreInverse, IsList}
use Rattle.ip_lists.specs.declared.table.Table.{Table}

-- those of the places that are in the bucket
abbrev pub in_bucket : (ℕ → ℕ) → ℕ → List ℕ → List ℕ
in_bucket bucket_of b places = filter (λ p. bucket_of p == b) places

-- The arrays have room for the places and for the heads of the lists.
pub record HasRoom (table : Table) : Type 0 where
  pub ages : table.places + 1 < length table.ages.next.now
  pub ages_as_many : length table.ages.previous.now ≡ length table.ages.next.now
  pub ages_few : length table.ages.next.now ≤ 2 ^ 32
  pub chains : table.places ≤ length table.chains.next.now
  pub chains_as_many : length table.chains.previous.now ≡ length table.chains.next.now
  pub chains_few : length table.chains.next.now ≤ 2 ^ 32

-- The table has a chain for the bucket.
abbrev pub HasBucket : Table → ℕ → Type 0
HasBucket table b = table.places + b < length table.chains.next.now

-- The places `free` are free, and the places `used` are in use, the oldest first, each in the chain of its bucket.
pub record IsTable (table : Table) (free used : List ℕ) (bucket_of : ℕ → ℕ) : Type 0 where
  pub ages_linked : AreInverse table.ages.next.now table.ages.previous.now
  pub chains_linked : AreInverse table.chains.next.now table.chains.previous.now
  -- Each place is free or in use, and nothing else is.
  pub each : (p : ℕ) → (Contains free p ⊎ Contains used p) ↔ (p < table.places)
  pub free_list : IsList table.ages.next.now table.places free
  pub used_list : IsList table.ages.next.now (table.places + 1) used
  -- The chain of a bucket has the places in use that are in it, the oldest first. A free place is in no chain.
  pub bucket : (p : ℕ) → Contains used p → HasBucket table (bucket_of p)
  pub chain : (b : ℕ) → HasBucket table b → IsList table.chains.next.now (table.places + b) (in_bucket bucket_of b used)
  pub no_chain : (p : ℕ) → Contains free p → IsList table.chains.next.now p []

-- the buckets, where one place is in this bucket now
abbrev pub with_bucket : (ℕ → ℕ) → ℕ → ℕ → ℕ → ℕ
with_bucket bucket_of place b p = if p == place then b else bucket_of p

-- Both tables have the same contents.
pub record AreSame (old new : Table) : Type 0 where
  pub places : new.places ≡ old.places
  pub ages_next : new.ages.next.now ≡ old.ages.next.now
  pub ages_previous : new.ages.previous.now ≡ old.ages.previous.now
  pub chains_next : new.chains.next.now ≡ old.chains.next.now
  pub chains_previous : new.chains.previous.now ≡ old.chains.previous.now
