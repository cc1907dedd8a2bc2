-- The rows of a table, by their indices.
use Rattle.std.specs.Prelude.{ℕ, List, [], ◌∷◌, ◌++◌, slice_index_or}

-- row n, which is empty beyond the last, and a 0
abbrev pub text_in : List (List ℕ) → ℕ → List ℕ
text_in rows n = slice_index_or rows n [] ++ 0 ∷ []
