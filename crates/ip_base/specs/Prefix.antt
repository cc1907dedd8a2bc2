-- Prefixes of lists of bytes.
use Rattle.std.specs.Prelude.{◌≡◌, ℕ, List, length, take}

-- b is a prefix of s; it may be empty or all of s
abbrev pub IsPrefix : List ℕ → List ℕ → Type 0
IsPrefix b s = take (length b) s ≡ b

-- no prefix of s has the property P
abbrev pub NoPrefix : (List ℕ → Type 0) → List ℕ → Type 0
NoPrefix P s = (b : List ℕ) → P b → IsPrefix b s → ⊥
