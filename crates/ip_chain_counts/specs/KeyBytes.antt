-- The bytes of a key, as they are appended.
use Rattle.std.specs.Prelude.{◌≡◌, ℕ, ◌+◌, ◌≤◌, List, length, take, min}
use Rattle.ip_key_counts.specs.declared.counted_key.TheConstants.{MAX_KEY_LEN}
use Rattle.ip_chain_counts.specs.declared.key_bytes.KeyBytes.{KeyBytes}

-- These bytes were pushed. They are there unless they are too many.
pub record HasBytes (b : KeyBytes) (xs : List ℕ) : Type 0 where
  pub len : b.len ≡ min (length xs) (MAX_KEY_LEN + 1)
  pub bytes : length xs ≤ MAX_KEY_LEN → take (length xs) b.bytes ≡ xs
