-- A copy of the bytes of headers, whose reserved bits are cleared one header after the other.
use Rattle.std.specs.Prelude.{◌≡◌, ℕ, ◌≤◌, List, ◌++◌, length, take, drop}
use Rattle.ip_spec.specs.Chain.{ExtHeader, bytes_of}
use Rattle.ip_spec.specs.Encoding.{cleared_chain}

-- The bytes from `at` on are those of the remaining headers. Once these are cleared too, the copy is `all`.
pub record Clearing (all : List ℕ) (left : List ExtHeader) (at : ℕ) (copy : List ℕ) : Type 0 where
  pub within : at ≤ length copy
  pub cleared : take at copy ++ bytes_of (cleared_chain left) ≡ all
  pub rest : drop at copy ≡ bytes_of left
