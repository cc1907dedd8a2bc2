-- Joining the parts of a run.
use Rattle.ip_spec.proofs.Common.{◌≡◌, ℕ, List, [], ◌++◌, length, take, refl, append_assoc, rules, Option, Some, IfSome, Result, Ok, Appends, Consumes, IsAtEnd, Keeps, ReadConsumes, Appends-nil, Appends-trans, Appends-kept, Consumes-trans, take-append_seam, flat_map-append, append-nil, take-append-drop}
use Rattle.ipexts_tool.specs.Answers.{answers, answers_to}
use Rattle.ipexts_tool.specs.Lines.{lines_of}
use Rattle.ipexts_tool.specs.OpenLine.{ended_lines, open_line, lines_at_end}
use Rattle.ipexts_tool.specs.Progress.{Advances, StopsWithin}
use Rattle.ipexts_tool.proofs.OpenLineLemmas.{lines_absent, lines-append, lines_of-is, first_answers-kept, answers_to-kept, open_line-kept, lines_at_end-kept}

-- a read that returned no bytes
pub read_none : {E : Type 0} (i i' : Option (List ℕ)) (r : Result ℕ E) (buf : List ℕ) (n : ℕ) → r ≡ Ok n → n ≡ 0 → ReadConsumes i i' r buf → Consumes i i' []
read_none i i' r buf n e none h = search rules

-- no bytes arrived
pub Advances-none : (i i' o : Option (List ℕ)) (line : List ℕ) → Consumes i i' [] → Advances i i' o o line line
Advances-none i i' o line none = let nil = lines_absent line [] refl in ([], none, search (rules, Appends-nil, nil.0), cc (nil.1, append-nil line))

-- a run that stops at once has answered nothing more
pub StopsWithin-none : (i o o' : Option (List ℕ)) (line : List ℕ) → Keeps o o' → StopsWithin i o o' line
StopsWithin-none i o o' line kept = ([], search rules, 0, search (rules, Appends-kept, Appends-nil))

pub Advances-trans : (i₀ i₁ o₀ o₁ o₂ : Option (List ℕ)) (p : List ℕ) (i₂ : Option (List ℕ)) (q : List ℕ) → Advances i₀ i₁ o₀ o₁ [] p → Advances i₁ i₂ o₁ o₂ p q → Advances i₀ i₂ o₀ o₂ [] q
Advances-trans i₀ i₁ o₀ o₁ o₂ p i₂ q a b =
    let lines = lines-append [] a.0 b.0 in
    let said = answers_to-kept p (open_line [] a.0) a.3 b.0 in
    let kept = open_line-kept p (open_line [] a.0) a.3 b.0 in
    (a.0 ++ b.0, search (rules, Consumes-trans), search (rules, lines.0, flat_map-append, said, Appends-trans), cc (b.3, lines.1))

-- a run that stopped has answered the first lines of the input, up to some line
pub StopsWithin-answers : (i₀ i₁ o₀ o₁ o₂ : Option (List ℕ)) (p : List ℕ) → Advances i₀ i₁ o₀ o₁ [] p → StopsWithin i₁ o₁ o₂ p
    → IfSome i₀ (λ bytes. (n : ℕ) × Appends o₀ o₂ (answers_to (take n (lines_of bytes))))
StopsWithin-answers (Some xs) (Some ys) o₀ o₁ o₂ p a b =
    let begun : List ℕ = open_line [] a.0 in
    let second : List (List ℕ) = ended_lines begun b.0 in
    let told : List (List ℕ) = ended_lines [] a.0 ++ take b.2 second in
    let one = lines-append [] a.0 (b.0 ++ b.1.0) in
    let two = lines-append begun b.0 b.1.0 in
    let all = take-append-drop b.2 second in
    let said = first_answers-kept p begun a.3 b.2 b.0 in
    (length told, search (rules, a.1, b.1.1, lines_of-is, one.0, two.0, all, append_assoc, take-append_seam, flat_map-append, said, Appends-trans))
StopsWithin-answers i₀ i₁ o₀ o₁ o₂ p a b = search rules

-- a run that reached the end has answered all lines
pub Advances-answers : (i₀ i₁ o₀ o₁ o₂ : Option (List ℕ)) (p : List ℕ) → Advances i₀ i₁ o₀ o₁ [] p → IsAtEnd i₁ → Appends o₁ o₂ (answers_to (lines_at_end p))
    → IfSome i₀ (λ bytes. Appends o₀ o₂ (answers bytes))
Advances-answers i₀ i₁ o₀ o₁ o₂ p a end said = search (rules, append-nil, lines_at_end-kept, Appends-trans, flat_map-append, lines_of-is)
