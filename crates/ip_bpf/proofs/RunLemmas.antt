-- Instructions that are skipped.
use Rattle.std.proofs.Common.{◌≡◌, ℕ, zero, suc, ◌≤◌, List, [], ◌∷◌, length, drop, refl, sym, ap, ◌∙◌, arith}
use Rattle.std.specs.Prelude.{Option, Some, None}
use Rattle.ip_bpf.specs.Codes.{operation_of}
use Rattle.ip_bpf.specs.Machine.{result_from, after_step, step_of, step, Step, Continues}
use Rattle.ip_bpf.specs.declared.instruction.Operation.{Operation}
use Rattle.ip_bpf.specs.declared.instruction.Instruction.{Instruction}
use Rattle.ip_bpf.specs.declared.machine.Machine.{Machine}

-- to skip instructions is to go on with what is left of them
pub result_from-drop : (program : List Instruction) (n : ℕ) (packet : List ℕ) (m : Machine) → result_from (drop n program) 0 packet m ≡ result_from program n packet m
result_from-drop [] zero packet m = refl
result_from-drop [] (suc n) packet m = refl
result_from-drop (i ∷ rest) zero packet m = refl
result_from-drop (i ∷ rest) (suc n) packet m = result_from-drop rest n packet m

-- nothing is left after the last one
pub result_from-beyond : (program : List Instruction) (n : ℕ) (packet : List ℕ) (m : Machine) → length program ≤ n → result_from program n packet m ≡ None
result_from-beyond [] n packet m h = refl
result_from-beyond (i ∷ rest) zero packet m h = absurd (omega arith)
result_from-beyond (i ∷ rest) (suc n) packet m h = result_from-beyond rest n packet m (omega arith)

-- an instruction that goes on
pub goes_on : (program rest : List Instruction) (i : Instruction) (o : Operation) (packet : List ℕ) (m next : Machine) (n : ℕ) → program ≡ i ∷ rest → Some o ≡ operation_of i → Continues n next ≡ step o packet m → result_from program 0 packet m ≡ result_from rest n packet next
goes_on program rest i o packet m next n e f g =
    ap (λ (p : List Instruction). result_from p 0 packet m) e
    ∙ ap (λ (p : Option Operation). after_step (step_of p packet m) (λ k t. result_from rest k packet t)) (sym f)
    ∙ ap (λ (s : Step). after_step s (λ k t. result_from rest k packet t)) (sym g)
