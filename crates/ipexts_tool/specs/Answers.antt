-- The answer to a line, and to all lines of an input.
use Rattle.std.specs.Prelude.{ℕ, List, codes}
use Rattle.std.specs.List.{flat_map}
use Rattle.std.specs.Option.{option_map_or}
use Rattle.ipexts_tool.specs.Request.{answer_to, request_of}
use Rattle.ipexts_tool.specs.Lines.{lines_of}

-- the answer to a line that is not a request
abbrev pub bad_line : List ℕ
bad_line = codes "bad line\n"

-- the answer to a line
abbrev pub answer_of : List ℕ → List ℕ
answer_of line = option_map_or answer_to (request_of line) bad_line

-- the answers to some lines, in order
abbrev pub answers_to : List (List ℕ) → List ℕ
answers_to lines = flat_map answer_of lines

-- the answers to an input
abbrev pub answers : List ℕ → List ℕ
answers bytes = answers_to (lines_of bytes)
