-- A program that the kernel accepts returns.
use Rattle.std.proofs.Common.{◌≡◌, ◌≢◌, Bool, ℕ, zero, suc, ◌+◌, ◌-◌, ◌<◌, List, [], ◌∷◌, length, drop, refl, sym, ap, subst, ◌∙◌, arith}
use Rattle.std.proofs.lemmas.List.{length-drop}
use Rattle.std.specs.Option.{option_and_then}
use Rattle.std.specs.Prelude.{Option, Some, None, IsSome, IsSomeAnd, slice_get, slice_index_or}
use Rattle.ip_bpf.proofs.StepLemmas.{Stores, IsRight, step_right}
use Rattle.ip_bpf.specs.Codes.{operation_of}
use Rattle.ip_bpf.specs.Machine.{Step, Returns, Continues, Stuck, start, step, step_of, after_step, result_from, result_of}
use Rattle.ip_bpf.specs.Programs.{IsProgram, instruction_error, operation_at, skipped_if, LeadsTo, IsUnwritten, word_loaded, word_stored}
use Rattle.ip_bpf.specs.declared.instruction.Instruction.{Instruction}
use Rattle.ip_bpf.specs.declared.instruction.Operation.{Operation}
use Rattle.ip_bpf.specs.declared.machine.Machine.{Machine}

-- each word of the machine's memory that isn't written is on no path to a place
record IsAt (program : List Instruction) (place : ℕ) (m : Machine) : Type 0 where
  len : length m.memory ≡ 16
  unwritten : (k : ℕ) → slice_index_or m.memory k None ≡ None → (path : List ℕ) × IsUnwritten program k place path

at_start : (program : List Instruction) → IsAt program 0 start
at_start program = record { len = refl; unwritten = λ k h. ([], refl) }

advance : (program : List Instruction) (place n : ℕ) (o : Operation) (m next : Machine) → operation_at program place ≡ Some o → IsAt program place m → (is_met : Bool) × (n ≡ skipped_if is_met o) → Stores o m.memory next.memory → IsAt program (place + 1 + n) next
advance program place n o m next e here skips stores = record {
  len = stores.len;
  unwritten = λ k h.
      let old : (path : List ℕ) × IsUnwritten program k place path = here.unwritten k (stores.kept k h) in
      let leads : LeadsTo program place (place + 1 + n) = subst (λ (t : Option Operation). IsSomeAnd t (λ o. (is_met : Bool) × (place + 1 + n ≡ place + 1 + skipped_if is_met o))) (sym e) (skips.0, ap (λ (i : ℕ). place + 1 + i) skips.1) in
      let stored : word_stored (operation_at program place) ≢ Some k = subst (λ (t : Option Operation). word_stored t ≢ Some k) (sym e) (stores.stored k h) in
      (place ∷ old.0, (leads, stored, old.1));
}

get_dropped : (program rest : List Instruction) (i : Instruction) (place : ℕ) → drop place program ≡ i ∷ rest → slice_get program place ≡ Some i
get_dropped [] rest i zero h = absurd (let y : ⊥ = cc in y)
get_dropped [] rest i (suc place) h = absurd (let y : ⊥ = cc in y)
get_dropped (j ∷ program) rest i zero h = let e : j ≡ i = cc in ap Some e
get_dropped (j ∷ program) rest i (suc place) h = get_dropped program rest i place h

drop_more : (program rest : List Instruction) (i : Instruction) (place : ℕ) → drop place program ≡ i ∷ rest → drop (suc place) program ≡ rest
drop_more [] rest i zero h = absurd (let y : ⊥ = cc in y)
drop_more [] rest i (suc place) h = absurd (let y : ⊥ = cc in y)
drop_more (j ∷ program) rest i zero h = cc
drop_more (j ∷ program) rest i (suc place) h = drop_more program rest i place h

module _ (program : List Instruction) (valid : IsProgram program) where
  -- no word is loaded that isn't written
  loads_written : (place : ℕ) (o : Operation) (m : Machine) → place < length program → operation_at program place ≡ Some o → IsAt program place m → (k : ℕ) → word_loaded (Some o) ≡ Some k → k < 16 → slice_index_or m.memory k None ≢ None
  loads_written place o m less e here k loads small h =
      let path : (path : List ℕ) × IsUnwritten program k place path = here.unwritten k h in
      valid.written place less (k, path.0, ap word_loaded e ∙ loads, path.1)

  module _ (rest : List Instruction) (place : ℕ) (packet : List ℕ) (m : Machine) (less : place < length program) (here : IsAt program place m)
      (go : (skipped : ℕ) (next : Machine) → skipped < length rest → IsAt program (place + 1 + skipped) next → IsSome (result_from rest skipped packet next)) where
    after_right : (o : Operation) → operation_at program place ≡ Some o → (s : Step) → IsRight o (length rest) m s → IsSome (after_step s (λ skipped next. result_from rest skipped packet next))
    after_right o e (Returns n) right = refl
    after_right o e (Continues n next) right = go n next right.0 (advance program place n o m next e here right.1 right.2)
    after_right o e Stuck right = absurd right

    step_returns : (o : Option Operation) → operation_at program place ≡ o → instruction_error (length rest) o ≡ None → IsSome (after_step (step_of o packet m) (λ skipped next. result_from rest skipped packet next))
    step_returns None e fine = absurd (let y : ⊥ = cc in y)
    step_returns (Some o) e fine = after_right o e (step o packet m) (step_right o (length rest) packet m fine here.len (loads_written place o m less e here))

  returns_after : (rest : List Instruction) (place skipped target : ℕ) (packet : List ℕ) (m : Machine) → drop place program ≡ rest → target ≡ place + skipped → target < length program → IsAt program target m → IsSome (result_from rest skipped packet m)
  returns_after [] place skipped target packet m d t less here =
      let none : length program - place ≡ 0 = sym (length-drop place program) ∙ ap length d in
      absurd (omega arith)
  returns_after (i ∷ rest) place (suc skipped) target packet m d t less here =
      returns_after rest (suc place) skipped target packet m (drop_more program rest i place d) (omega arith) less here
  returns_after (i ∷ rest) place zero target packet m d t less here =
      let same : target ≡ place = omega arith in
      let within : place < length program = omega arith in
      let left : length program - place ≡ suc (length rest) = sym (length-drop place program) ∙ ap length d in
      let count : length program - place - 1 ≡ length rest = omega arith in
      let found : operation_at program place ≡ operation_of i = ap (option_and_then operation_of) (get_dropped program rest i place d) in
      let fine : instruction_error (length rest) (operation_of i) ≡ None =
      ap (λ (n : ℕ). instruction_error n (operation_of i)) (sym count) ∙ ap (instruction_error (length program - place - 1)) (sym found) ∙ valid.right place within in
      step_returns rest place packet m within (subst (λ (p : ℕ). IsAt program p m) same here)
      (λ n next few at. returns_after rest (suc place) n (place + 1 + n) packet next (drop_more program rest i place d) (omega arith) (omega arith) at)
      (operation_of i) found fine

  pub returns : (packet : List ℕ) → IsSome (result_of program packet)
  returns packet = returns_after program 0 0 0 packet start refl refl valid.some (at_start program)
