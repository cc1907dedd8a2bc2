-- The lines of an input.
use Rattle.std.specs.Prelude.{ℕ, Bool, ◌==◌, List, [], ◌∷◌}
use Rattle.std.specs.List.{slice_split}

-- the longest line that is a request, in bytes
abbrev pub max_line_len : ℕ
max_line_len = 8192

-- whether a byte is a newline
abbrev pub is_newline : ℕ → Bool
is_newline b = b == 10

-- the lines without an empty last one
abbrev pub without_empty_last : List (List ℕ) → List (List ℕ)
without_empty_last [] = []
without_empty_last ([] ∷ []) = []
without_empty_last (line ∷ lines) = line ∷ without_empty_last lines

-- the bytes before each newline, and those after the last one if there are any
abbrev pub lines_of : List ℕ → List (List ℕ)
lines_of bytes = without_empty_last (slice_split is_newline bytes)
