-- The lines of bytes that arrive in parts.
use Rattle.ip_spec.proofs.Common.{◌≡◌, ℕ, suc, min, ◌+◌, ◌<◌, List, [], ◌∷◌, ◌++◌, length, take, refl, ap, arith, append_assoc, rules, common_steps, if◌then◌else◌, nat_le, Option, None, slice_split, option_map_or, cases_lt, cond-false, lt-leb, take_all, length-take, take-append-add, append-nil, length-append}
use Rattle.std.proofs.lemmas.List.{take_min}
use Rattle.std.proofs.lemmas.List.Splits.{length-slice_split}
use Rattle.ipexts_tool.specs.Lines.{is_newline, lines_of, without_empty_last, max_line_len}
use Rattle.ipexts_tool.specs.OpenLine.{onto_begun, all_but_last, last_line, ended_lines, open_line, lines_at_end, kept_len}
use Rattle.ipexts_tool.specs.Answers.{answer_of, answers_to, bad_line}
use Rattle.ipexts_tool.specs.Request.{Request, answer_to, request_of_fields}
use Rattle.ipexts_tool.specs.LineFields.{spaced_fields}
use Rattle.ipexts_tool.specs.Progress.{SameKept}

-- bytes always have at least one part
some_parts : (parts : List (List ℕ)) → 0 < length parts → (line : List ℕ) × (lines : List (List ℕ)) × (parts ≡ line ∷ lines)
some_parts [] some = absurd (omega arith)
some_parts (line ∷ lines) some = (line, lines, refl)

onto_begun-none : (parts : List (List ℕ)) → onto_begun [] parts ≡ parts
onto_begun-none parts = search rules

-- ---- the first newline

pub lines_found : (begun bytes part rest : List ℕ) → slice_split is_newline bytes ≡ part ∷ slice_split is_newline rest → (ended_lines begun bytes ≡ (begun ++ part) ∷ ended_lines [] rest) × (open_line begun bytes ≡ open_line [] rest)
unfolding ended_lines open_line
lines_found begun bytes part rest found = search (rules, length-slice_split is_newline rest)

pub lines_absent : (begun bytes : List ℕ) → slice_split is_newline bytes ≡ bytes ∷ [] → (ended_lines begun bytes ≡ []) × (open_line begun bytes ≡ begun ++ bytes)
unfolding ended_lines open_line
lines_absent begun bytes absent = search rules

-- ---- bytes that arrive in two parts

pub lines-append : (begun xs ys : List ℕ) → (ended_lines begun (xs ++ ys) ≡ ended_lines begun xs ++ ended_lines (open_line begun xs) ys) × (open_line begun (xs ++ ys) ≡ open_line (open_line begun xs) ys)
unfolding ended_lines open_line
lines-append begun [] ys = grind (arith, common_steps)
lines-append begun (b ∷ xs) ys =
    let left = some_parts (slice_split is_newline xs) (omega (arith, length-slice_split is_newline xs)) in
    let all = some_parts (slice_split is_newline (xs ++ ys)) (omega (arith, length-slice_split is_newline (xs ++ ys))) in
    grind (arith, common_steps, onto_begun-none, lines-append [] xs ys, lines-append (begun ++ b ∷ []) xs ys)

-- ---- all the lines

without_empty_last-is : (lines : List (List ℕ)) → without_empty_last lines ≡ all_but_last lines ++ lines_at_end (last_line lines)
without_empty_last-is [] = search rules
without_empty_last-is (line ∷ lines) = search (rules, without_empty_last-is lines)

pub lines_of-is : (bytes : List ℕ) → lines_of bytes ≡ ended_lines [] bytes ++ lines_at_end (open_line [] bytes)
unfolding ended_lines open_line
lines_of-is bytes = rw onto_begun-none (without_empty_last-is (slice_split is_newline bytes))

-- ---- the part kept of a started line

-- for any limit, since a tactic would unfold a literal one
request_upto : ℕ → List ℕ → Option Request
request_upto m line = if nat_le (length line) m then request_of_fields (spaced_fields line) else None

request_upto-kept : (m : ℕ) (begun line : List ℕ) → request_upto m (take (m + 1) begun ++ line) ≡ request_upto m (begun ++ line)
unfolding request_upto
request_upto-kept m begun line = search (rules, cases_lt, length-append, length-take, cond-false, lt-leb, take_all)

-- the part kept of a line determines its answer
answer_of-kept : (begun line : List ℕ) → answer_of (take kept_len begun ++ line) ≡ answer_of (begun ++ line)
unfolding request_upto
answer_of-kept begun line = ap (λ (request : Option Request). option_map_or answer_to request bad_line) (request_upto-kept max_line_len begun line)

pub answer_of-take : (line : List ℕ) → answer_of (take kept_len line) ≡ answer_of line
answer_of-take line = cc (answer_of-kept line [], append-nil line, append-nil (take kept_len line))

-- the part kept of a line, extended by as much of its next part as fits
pub take-room : (m room : ℕ) (begun part : List ℕ) → room + length begun ≡ m → begun ++ take (min (length part) room) part ≡ take m (begun ++ part)
take-room m room begun part e =
    let whole : length begun + room ≡ m = omega arith in
    let least : min (length part) room ≡ min room (length part) = omega arith in
    rw (least, take_min, ← whole, take-append-add)

kept_by_parts : (m : ℕ) (begun begun' : List ℕ) → take m begun ≡ take m begun' → (parts : List (List ℕ)) → take m (last_line (onto_begun begun parts)) ≡ take m (last_line (onto_begun begun' parts))
kept_by_parts m begun begun' same parts = grind (arith, common_steps)

-- the answers and the part kept are those of the whole line
module _ (begun begun' : List ℕ) (same : SameKept begun begun') where
  answers_by_parts : (n : ℕ) (parts : List (List ℕ))
      → answers_to (take n (all_but_last (onto_begun begun parts))) ≡ answers_to (take n (all_but_last (onto_begun begun' parts)))
  answers_by_parts (suc n) (line ∷ next ∷ lines) = cc (answer_of-kept begun line, answer_of-kept begun' line)
  answers_by_parts n parts = search rules

  pub first_answers-kept : (n : ℕ) (bytes : List ℕ) → answers_to (take n (ended_lines begun bytes)) ≡ answers_to (take n (ended_lines begun' bytes))
  unfolding ended_lines
  first_answers-kept n bytes = answers_by_parts n (slice_split is_newline bytes)

  pub answers_to-kept : (bytes : List ℕ) → answers_to (ended_lines begun bytes) ≡ answers_to (ended_lines begun' bytes)
  answers_to-kept bytes = search (rules, first_answers-kept (length (ended_lines begun bytes) + length (ended_lines begun' bytes)), take_all)

  pub open_line-kept : (bytes : List ℕ) → SameKept (open_line begun bytes) (open_line begun' bytes)
  unfolding open_line
  open_line-kept bytes = kept_by_parts kept_len begun begun' same (slice_split is_newline bytes)

  pub lines_at_end-kept : answers_to (lines_at_end begun) ≡ answers_to (lines_at_end begun')
  lines_at_end-kept = search (rules, answer_of-take begun, answer_of-take begun', same)

-- what `feed` uses
pub ruleset line_parts = (answer_of-take, lines_absent, append-nil, append_assoc)
