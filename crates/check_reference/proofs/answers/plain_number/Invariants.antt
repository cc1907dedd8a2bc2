use Rattle.ip_spec.proofs.Common.{◌≡◌, ◌<◌, ℕ, decimal}
use Rattle.check_reference.proofs.answers.plain_number.Given as goal

-- the text is not the numeral of any number so far
abbrev pub invariant-loop-number : goal.invariant-loop-number
invariant-loop-number l = (k : ℕ) → k < l.number-counter → decimal k ≡ l.text → ⊥
