-- Code that is written from its end: a program, or the end of one. A label is a place in it, as the number of instructions from there to
-- the end, so it stays the same when more is put before.
use Rattle.std.specs.Prelude.{◌≡◌, ℕ, zero, suc, ◌-◌, ◌==◌, ◌&&◌, ◌||◌, not, Bool, true, false, List, [], ◌∷◌, ◌++◌, length, Option, None}
use Rattle.std.specs.Option.{option_map_or}
use Rattle.ip_bpf.specs.Codes.{operation_of}
use Rattle.ip_bpf.specs.Machine.{result_from}
use Rattle.ip_bpf.specs.Programs.{instruction_error, skipped_if, word_loaded, word_stored}
use Rattle.ip_bpf.specs.declared.instruction.Instruction.{Instruction}
use Rattle.ip_bpf.specs.declared.machine.Machine.{Machine}

-- what the code returns from a label on
abbrev pub result_at : List Instruction → ℕ → List ℕ → Machine → Option ℕ
result_at code label packet m = result_from code (length code - label) packet m

-- nothing is wrong with an instruction of the code by itself, as the end of a program
abbrev pub AreRight : List Instruction → Type 0
AreRight [] = Unit {0}
AreRight (i ∷ code) = (instruction_error (length code) (operation_of i) ≡ None) × AreRight code

-- an index of the memory that an instruction loads or stores is k
abbrev pub is_word : ℕ → Option ℕ → Bool
is_word k word = option_map_or (λ j. j == k) word false

-- After so many instructions are skipped, some path through the code loads the word k before it stores one there.
abbrev pub needs_from : ℕ → List Instruction → ℕ → Bool
needs_from k [] skipped = false
needs_from k (i ∷ code) (suc skipped) = needs_from k code skipped
needs_from k (i ∷ code) zero =
    is_word k (word_loaded (operation_of i))
    || (not (is_word k (word_stored (operation_of i)))
    && option_map_or (λ o. needs_from k code (skipped_if true o) || needs_from k code (skipped_if false o)) (operation_of i) false)

-- the same from a label on
abbrev pub needs_at : ℕ → List Instruction → ℕ → Bool
needs_at k code label = needs_from k code (length code - label)

-- there is other code, and something is put before it
abbrev pub Extends : List Instruction → List Instruction → Type 0
Extends code later = (front : List Instruction) × (code ≡ front ++ later)
