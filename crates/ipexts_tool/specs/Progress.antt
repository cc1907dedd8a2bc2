-- The progress of a run.
use Rattle.std.specs.Prelude.{ℕ, ◌≡◌, List, ◌++◌, take, Option, IfSome}
use Rattle.std.specs.Io.KnownBytes.{Appends, Consumes}
use Rattle.ipexts_tool.specs.Answers.{answers_to}
use Rattle.ipexts_tool.specs.OpenLine.{ended_lines, open_line, kept_len}

-- two lines agree in the part that is kept
abbrev pub SameKept : List ℕ → List ℕ → Type 0
SameKept line line' = take kept_len line ≡ take kept_len line'

-- some bytes were read from the input, the lines that end in them were answered, and what follows is kept
abbrev pub Advances : Option (List ℕ) → Option (List ℕ) → Option (List ℕ) → Option (List ℕ)
    → List ℕ → List ℕ → Type 0
Advances input input' output output' line line' = (came : List ℕ) × Consumes input input' came
    × Appends output output' (answers_to (ended_lines line came))
    × SameKept line' (open_line line came)

-- the first n of these lines were answered
abbrev pub AnswersFirst : Option (List ℕ) → Option (List ℕ) → List (List ℕ) → ℕ → Type 0
AnswersFirst output output' lines n = Appends output output' (answers_to (take n lines))

-- of the lines that end in the input's first bytes, the first ones were answered
abbrev pub StopsWithin : Option (List ℕ) → Option (List ℕ) → Option (List ℕ) → List ℕ → Type 0
StopsWithin input output output' line = (came : List ℕ)
    × IfSome input (λ bytes. (rest : List ℕ) × (bytes ≡ came ++ rest))
    × (n : ℕ) × AnswersFirst output output' (ended_lines line came) n
