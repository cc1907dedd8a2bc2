-- The machine that runs a program on a packet (Linux, Documentation/networking/filter.rst; bpf(4), "FILTER MACHINE").
use Rattle.std.specs.Prelude.{ℕ, zero, suc, ◌+◌, ◌-◌, ◌*◌, ◌/◌, ◌%◌, ◌^◌, ◌==◌, nat_le, nat_lt, not, bit_and, bit_or, bit_xor, Bool, List, [], ◌∷◌, length, replicate, slice_index, slice_index_or, slice_set, Option, Some, None, if◌then◌else◌}
use Rattle.std.specs.Option.{option_map}
use Rattle.ip_bpf.specs.Codes.{operation_of}
use Rattle.ip_bpf.specs.declared.instruction.Instruction.{Instruction}
use Rattle.ip_bpf.specs.declared.instruction.Register.{Register}
use Rattle.ip_bpf.specs.declared.instruction.Register.TheVariants as register
use Rattle.ip_bpf.specs.declared.instruction.Operand.{Operand}
use Rattle.ip_bpf.specs.declared.instruction.Operand.TheVariants as operand
use Rattle.ip_bpf.specs.declared.instruction.Width.{Width}
use Rattle.ip_bpf.specs.declared.instruction.Width.TheVariants as width
use Rattle.ip_bpf.specs.declared.instruction.Arithmetic.{Arithmetic}
use Rattle.ip_bpf.specs.declared.instruction.Arithmetic.TheVariants as arithmetic
use Rattle.ip_bpf.specs.declared.instruction.Comparison.{Comparison}
use Rattle.ip_bpf.specs.declared.instruction.Comparison.TheVariants as comparison
use Rattle.ip_bpf.specs.declared.instruction.Operation.{Operation}
use Rattle.ip_bpf.specs.declared.instruction.Operation.TheVariants as operation
use Rattle.ip_bpf.specs.declared.machine.Machine.{Machine}

-- the machine before the first instruction: no word of the memory is written yet
abbrev pub start : Machine
start = record { a = 0; x = 0; memory = replicate 16 None }

-- the number of bytes of a load
abbrev pub width_len : Width → ℕ
width_len width.Word = 4
width_len width.HalfWord = 2
width_len width.Byte = 1

-- the number at an offset, in network order
abbrev pub number_at : List ℕ → ℕ → Width → ℕ
number_at packet offset width.Word =
    0x100_0000 * slice_index packet offset + 0x1_0000 * slice_index packet (offset + 1)
    + 0x100 * slice_index packet (offset + 2) + slice_index packet (offset + 3)
number_at packet offset width.HalfWord = 0x100 * slice_index packet offset + slice_index packet (offset + 1)
number_at packet offset width.Byte = slice_index packet offset

-- the number that a load takes from a packet, if all its bytes are there
abbrev pub loaded : List ℕ → ℕ → Width → Option ℕ
loaded packet offset w = if nat_le (offset + width_len w) (length packet) then Some (number_at packet offset w) else None

-- the length of the IPv4 header at an offset: the low 4 bits of its first byte count words (RFC 791, section 3.1)
abbrev pub header_length : List ℕ → ℕ → Option ℕ
header_length packet offset = option_map (λ byte. 4 * (byte % 16)) (loaded packet offset width.Byte)

-- the result of an operation on numbers of 32 bits, if there is one: no number is divided by 0, and a shift is by the low 5 bits
abbrev pub computed : Arithmetic → ℕ → ℕ → Option ℕ
computed arithmetic.Add a b = Some ((a + b) % 2 ^ 32)
computed arithmetic.Subtract a b = Some ((a + (2 ^ 32 - b)) % 2 ^ 32)
computed arithmetic.Multiply a b = Some ((a * b) % 2 ^ 32)
computed arithmetic.Divide a b = if b == 0 then None else Some (a / b)
computed arithmetic.Or a b = Some (bit_or a b)
computed arithmetic.And a b = Some (bit_and a b)
computed arithmetic.ShiftLeft a b = Some ((a * 2 ^ (b % 32)) % 2 ^ 32)
computed arithmetic.ShiftRight a b = Some (a / 2 ^ (b % 32))
computed arithmetic.Modulo a b = if b == 0 then None else Some (a % b)
computed arithmetic.Xor a b = Some (bit_xor a b)

-- whether the condition of a jump holds
abbrev pub holds : Comparison → ℕ → ℕ → Bool
holds comparison.Equal a b = a == b
holds comparison.Greater a b = nat_lt b a
holds comparison.GreaterOrEqual a b = nat_le b a
holds comparison.AnyBit a b = not (bit_and a b == 0)

-- what is in a register, and a machine with another number in it
abbrev pub in_register : Register → Machine → ℕ
in_register register.A m = m.a
in_register register.X m = m.x

abbrev pub with_register : Register → ℕ → Machine → Machine
with_register register.A n m = record m { a = n }
with_register register.X n m = record m { x = n }

-- the second operand
abbrev pub operand_in : Operand → Machine → ℕ
operand_in (operand.Constant k) m = k
operand_in operand.X m = m.x

-- What one instruction leads to: the end of the program with a number; another machine, with so many instructions skipped; or nothing,
-- where the machine has no meaning.
pub data Step : Type 0 where
  Returns : (n : ℕ) → Step
  Continues : (skipped : ℕ) (m : Machine) → Step
  Stuck : Step

-- the next instruction with the number, or the end of the program with 0 where there is none
abbrev pub next_or_end : Option ℕ → (ℕ → Machine) → Step
next_or_end None machine_with = Returns 0
next_or_end (Some n) machine_with = Continues 0 (machine_with n)

-- the next instruction with the word, which has to be written
abbrev pub next_or_stuck : Option ℕ → (ℕ → Machine) → Step
next_or_stuck None machine_with = Stuck
next_or_stuck (Some n) machine_with = Continues 0 (machine_with n)

-- what an operation does with a packet
abbrev pub step : Operation → List ℕ → Machine → Step
step (operation.LoadConstant r k) packet m = Continues 0 (with_register r k m)
step (operation.LoadMemory r k) packet m = next_or_stuck (slice_index_or m.memory k None) (λ n. with_register r n m)
step (operation.LoadLength r) packet m = Continues 0 (with_register r (length packet % 2 ^ 32) m)
step (operation.LoadAbsolute w k) packet m = next_or_end (loaded packet k w) (λ n. record m { a = n })
step (operation.LoadIndirect w k) packet m = next_or_end (loaded packet ((m.x + k) % 2 ^ 32) w) (λ n. record m { a = n })
step (operation.LoadHeaderLength k) packet m = next_or_end (header_length packet k) (λ n. record m { x = n })
step (operation.Store r k) packet m =
    if nat_lt k 16 then Continues 0 (record m { memory = slice_set m.memory k (Some (in_register r m)) }) else Stuck
step (operation.Compute f o) packet m = next_or_end (computed f m.a (operand_in o m)) (λ n. record m { a = n })
step operation.Negate packet m = Continues 0 (record m { a = (2 ^ 32 - m.a) % 2 ^ 32 })
step (operation.Jump k) packet m = Continues k m
step (operation.Branch c o jt jf) packet m = Continues (if holds c m.a (operand_in o m) then jt else jf) m
step (operation.ReturnConstant k) packet m = Returns k
step operation.ReturnAccumulator packet m = Returns m.a
step operation.CopyToIndex packet m = Continues 0 (record m { x = m.a })
step operation.CopyToAccumulator packet m = Continues 0 (record m { a = m.x })

-- the same of an instruction
abbrev pub step_of : Option Operation → List ℕ → Machine → Step
step_of None packet m = Stuck
step_of (Some o) packet m = step o packet m

-- what follows a step
abbrev pub after_step : Step → (ℕ → Machine → Option ℕ) → Option ℕ
after_step (Returns n) go = Some n
after_step (Continues skipped m) go = go skipped m
after_step Stuck go = None

-- What a program returns after so many instructions are skipped, or None where it gets stuck or has no further instruction. Since no
-- instruction leads back, this is a recursion on the instructions that are left.
abbrev pub result_from : List Instruction → ℕ → List ℕ → Machine → Option ℕ
result_from [] skipped packet m = None
result_from (i ∷ rest) (suc skipped) packet m = result_from rest skipped packet m
result_from (i ∷ rest) zero packet m = after_step (step_of (operation_of i) packet m) (λ skipped next. result_from rest skipped packet next)

-- what a program returns on a packet
abbrev pub result_of : List Instruction → List ℕ → Option ℕ
result_of program packet = result_from program 0 packet start
