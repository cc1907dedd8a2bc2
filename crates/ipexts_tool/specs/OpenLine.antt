-- The lines that bytes add to a started line, and the line that they leave open.
use Rattle.std.specs.Prelude.{ℕ, List, [], ◌∷◌, ◌++◌}
use Rattle.std.specs.List.{slice_split}
use Rattle.ipexts_tool.specs.Lines.{is_newline}

-- the number of bytes kept of a line that hasn't ended: one more than a request may have, which shows that the line
-- is too long
abbrev pub kept_len : ℕ
kept_len = 8193

-- these lines, of which the first continues a started one
abbrev pub onto_begun : List ℕ → List (List ℕ) → List (List ℕ)
onto_begun begun [] = []
onto_begun begun (line ∷ lines) = (begun ++ line) ∷ lines

-- all but the last line
abbrev pub all_but_last : List (List ℕ) → List (List ℕ)
all_but_last [] = []
all_but_last (line ∷ []) = []
all_but_last (line ∷ next ∷ lines) = line ∷ all_but_last (next ∷ lines)

-- the last line
abbrev pub last_line : List (List ℕ) → List ℕ
last_line [] = []
last_line (line ∷ []) = line
last_line (line ∷ next ∷ lines) = last_line (next ∷ lines)

-- the lines that newlines in these bytes end, of which the first continues a started one
unfoldable pub ended_lines : List ℕ → List ℕ → List (List ℕ)
ended_lines begun bytes = all_but_last (onto_begun begun (slice_split is_newline bytes))

-- the line that no newline has ended yet
unfoldable pub open_line : List ℕ → List ℕ → List ℕ
open_line begun bytes = last_line (onto_begun begun (slice_split is_newline bytes))

-- the line at the end of an input, if it isn't empty
abbrev pub lines_at_end : List ℕ → List (List ℕ)
lines_at_end [] = []
lines_at_end (b ∷ bytes) = (b ∷ bytes) ∷ []
