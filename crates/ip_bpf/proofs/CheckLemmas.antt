-- A program in which something is wrong.
use Rattle.std.proofs.Common.{◌≡◌, ◌<◌, ℕ, inl, inr, List, [], ◌∷◌, zero, suc, length, get_or, refl, ap, sym, ◌∙◌, arith}
use Rattle.std.specs.Prelude.{Option, Some, None, Result, Ok, Err, IsOk, IsErr, slice_get}
use Rattle.std.proofs.lemmas.Bool.{false≢true}
use Rattle.std.specs.Option.{option_and_then}
use Rattle.ip_bpf.specs.Codes.{operation_of}
use Rattle.ip_bpf.specs.Programs.{IsProgram, IsError, operation_at}
use Rattle.ip_bpf.specs.declared.instruction.Instruction.{Instruction}
use Rattle.ip_bpf.specs.declared.err.InstructionError.{InstructionError}
use Rattle.ip_bpf.specs.declared.err.ProgramError.{ProgramError}
use Rattle.ip_bpf.specs.declared.err.ProgramError.TheVariants as error

some_not_none : (o : Option InstructionError) (e : InstructionError) → o ≡ Some e → o ≡ None → ⊥
some_not_none o e h n = let x : Some e ≡ None = sym h ∙ n in let y : ⊥ = cc in y

-- an error means that the kernel doesn't accept the program
pub error_refutes : (program : List Instruction) (e : ProgramError) → IsError program e → IsProgram program → ⊥
error_refutes program (error.Length n) h valid =
    let some : 0 < length program = valid.some in
    elim h.1 [ inl none ↦ omega (arith, h.0, some) | inr many ↦ omega (arith, h.0, many, valid.few) ]
error_refutes program (error.Instruction index e) h valid = some_not_none _ e h.2 (valid.right index h.1)
error_refutes program (error.UnwrittenMemory index) h valid = valid.written index h.1 h.3

get_found : (program : List Instruction) (index : ℕ) (d : Instruction) → index < length program → slice_get program index ≡ Some (get_or program index d)
get_found [] index d less = absurd (omega arith)
get_found (i ∷ program) zero d less = refl
get_found (i ∷ program) (suc index) d less = get_found program index d (omega arith)

-- the operation at an index, where the code has read the instruction
pub operation_found : (program : List Instruction) (index : ℕ) (d : Instruction) → index < length program → operation_at program index ≡ operation_of (get_or program index d)
operation_found program index d less = ap (option_and_then operation_of) (get_found program index d less)

pub not_both : {T E : Type 0} (r : Result T E) → IsErr r → IsOk r → ⊥
not_both (Ok x) err ok = false≢true err
not_both (Err e) err ok = false≢true ok
