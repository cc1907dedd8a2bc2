-- What the kernel asks of a program before it runs it (Linux, net/core/filter.c, bpf_check_classic and check_load_and_stores).
use Rattle.std.specs.Prelude.{◌≡◌, ◌≢◌, ◌⊎◌, ℕ, ◌+◌, ◌-◌, ◌^◌, ◌<◌, ◌≤◌, ◌==◌, ◌&&◌, nat_lt, Bool, List, [], ◌∷◌, length, slice_get, Option, Some, None, IsSomeAnd, if◌then◌else◌}
use Rattle.std.specs.Option.{option_and_then, option_or}
use Rattle.ip_bpf.specs.Codes.{operation_of}
use Rattle.ip_bpf.specs.declared.instruction.Instruction.{Instruction}
use Rattle.ip_bpf.specs.declared.instruction.Operand.TheVariants as operand
use Rattle.ip_bpf.specs.declared.instruction.Arithmetic.{Arithmetic}
use Rattle.ip_bpf.specs.declared.instruction.Arithmetic.TheVariants as arithmetic
use Rattle.ip_bpf.specs.declared.instruction.Operation.{Operation}
use Rattle.ip_bpf.specs.declared.instruction.Operation.TheVariants as operation
use Rattle.ip_bpf.specs.declared.err.InstructionError.{InstructionError}
use Rattle.ip_bpf.specs.declared.err.InstructionError.TheVariants as error
use Rattle.ip_bpf.specs.declared.err.ProgramError.{ProgramError}
use Rattle.ip_bpf.specs.declared.err.ProgramError.TheVariants as program_error

-- What is wrong with a constant operand: it divides by 0, or shifts by 32 bits or more.
abbrev pub constant_error : Arithmetic → ℕ → Option InstructionError
constant_error arithmetic.Divide k = if k == 0 then Some error.DivisionByZero else None
constant_error arithmetic.Modulo k = if k == 0 then Some error.DivisionByZero else None
constant_error arithmetic.ShiftLeft k = if nat_lt k 32 then None else Some error.LongShift
constant_error arithmetic.ShiftRight k = if nat_lt k 32 then None else Some error.LongShift
constant_error _ k = None

-- The offset is one in the packet. The kernel has others, from 2^31 on, for what it knows beside the packet (SKF_AD_OFF) and for offsets
-- from the start of a header (SKF_NET_OFF, SKF_LL_OFF).
abbrev pub offset_error : ℕ → Option InstructionError
offset_error k = if nat_lt k (2 ^ 31) then None else Some error.OffsetBeyondPackets

-- The memory has 16 words.
abbrev pub memory_error : ℕ → Option InstructionError
memory_error k = if nat_lt k 16 then None else Some error.NoMemory

-- What is wrong with the constants of an operation.
abbrev pub operation_error : Operation → Option InstructionError
operation_error (operation.LoadMemory r k) = memory_error k
operation_error (operation.LoadAbsolute w k) = offset_error k
operation_error (operation.LoadHeaderLength k) = offset_error k
operation_error (operation.Store r k) = memory_error k
operation_error (operation.Compute f (operand.Constant k)) = constant_error f k
operation_error _ = None

-- What is wrong with where an operation leads, if so many instructions follow it: a jump leads beyond the last one, or the last
-- instruction is no return.
abbrev pub way_error : ℕ → Operation → Option InstructionError
way_error left (operation.Jump k) = if nat_lt k left then None else Some error.LongJump
way_error left (operation.Branch c o jt jf) = if nat_lt jt left && nat_lt jf left then None else Some error.LongJump
way_error left (operation.ReturnConstant k) = None
way_error left operation.ReturnAccumulator = None
way_error left _ = if nat_lt 0 left then None else Some error.NoReturn

-- What is wrong with an instruction, if so many follow it.
abbrev pub instruction_error : ℕ → Option Operation → Option InstructionError
instruction_error left None = Some error.UnknownCode
instruction_error left (Some o) = option_or (operation_error o) (way_error left o)

-- the operation at an index
abbrev pub operation_at : List Instruction → ℕ → Option Operation
operation_at program index = option_and_then operation_of (slice_get program index)

abbrev pub error_at : List Instruction → ℕ → Option InstructionError
error_at program index = instruction_error (length program - index - 1) (operation_at program index)

-- the number of instructions that an operation skips, if its condition holds and if it doesn't; a return counts as leading to the next
-- instruction, since the kernel counts it so
abbrev pub skipped_if : Bool → Operation → ℕ
skipped_if is_met (operation.Jump k) = k
skipped_if is_met (operation.Branch c o jt jf) = if is_met then jt else jf
skipped_if is_met _ = 0

-- the index of the word that an operation loads from the memory, or stores
abbrev pub word_loaded : Option Operation → Option ℕ
word_loaded (Some (operation.LoadMemory r k)) = Some k
word_loaded _ = None

abbrev pub word_stored : Option Operation → Option ℕ
word_stored (Some (operation.Store r k)) = Some k
word_stored _ = None

-- the instruction at one index may lead to that at another
abbrev pub LeadsTo : List Instruction → ℕ → ℕ → Type 0
LeadsTo program from to = IsSomeAnd (operation_at program from) (λ o. (is_met : Bool) × (to ≡ from + 1 + skipped_if is_met o))

-- A path from the first instruction to an index on which no instruction stores the word k: the indexes before, the last of them first.
abbrev pub IsUnwritten : List Instruction → ℕ → ℕ → List ℕ → Type 0
IsUnwritten program k index [] = index ≡ 0
IsUnwritten program k index (before ∷ path) =
    LeadsTo program before index × (word_stored (operation_at program before) ≢ Some k) × IsUnwritten program k before path

-- The instruction at an index loads a word that isn't written on each path to it.
abbrev pub LoadsUnwritten : List Instruction → ℕ → Type 0
LoadsUnwritten program index =
    (k : ℕ) × (path : List ℕ) × (word_loaded (operation_at program index) ≡ Some k) × IsUnwritten program k index path

-- The kernel accepts the program.
pub record IsProgram (program : List Instruction) : Type 0 where
  pub some : 0 < length program
  pub few : length program ≤ 4096
  pub right : (index : ℕ) → index < length program → error_at program index ≡ None
  pub written : (index : ℕ) → index < length program → ¬ LoadsUnwritten program index

-- What is wrong with a program: its length; else the first instruction that is wrong; else the first load of a word that isn't written.
abbrev pub IsError : List Instruction → ProgramError → Type 0
IsError program (program_error.Length n) = (n ≡ length program) × ((n ≡ 0) ⊎ (4096 < n))
IsError program (program_error.Instruction index e) =
    (length program ≤ 4096) × (index < length program) × (error_at program index ≡ Some e) × ((p : ℕ) → p < index → error_at program p ≡ None)
IsError program (program_error.UnwrittenMemory index) =
    (length program ≤ 4096) × (index < length program) × ((p : ℕ) → p < length program → error_at program p ≡ None)
    × LoadsUnwritten program index × ((p : ℕ) → p < index → ¬ LoadsUnwritten program p)
