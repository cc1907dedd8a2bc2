-- The instruction of an operation (Linux, Documentation/networking/filter.rst; bpf(4)). Fields that the operation doesn't use are 0.
use Rattle.std.specs.Prelude.{ℕ, ◌+◌}
use Rattle.ip_bpf.specs.declared.instruction.Instruction.{Instruction}
use Rattle.ip_bpf.specs.declared.instruction.Register.{Register}
use Rattle.ip_bpf.specs.declared.instruction.Register.TheVariants as register
use Rattle.ip_bpf.specs.declared.instruction.Operand.{Operand}
use Rattle.ip_bpf.specs.declared.instruction.Operand.TheVariants as operand
use Rattle.ip_bpf.specs.declared.instruction.Width.{Width}
use Rattle.ip_bpf.specs.declared.instruction.Width.TheVariants as width
use Rattle.ip_bpf.specs.declared.instruction.Arithmetic.{Arithmetic}
use Rattle.ip_bpf.specs.declared.instruction.Arithmetic.TheVariants as arithmetic
use Rattle.ip_bpf.specs.declared.instruction.Comparison.{Comparison}
use Rattle.ip_bpf.specs.declared.instruction.Comparison.TheVariants as comparison
use Rattle.ip_bpf.specs.declared.instruction.Operation.{Operation}
use Rattle.ip_bpf.specs.declared.instruction.Operation.TheVariants as operation

-- bit 0 of a load or a store
abbrev pub register_bit : Register → ℕ
register_bit register.A = 0
register_bit register.X = 1

-- bits 3 and 4 of a load
abbrev pub size_bits : Width → ℕ
size_bits width.Word = 0x00
size_bits width.HalfWord = 0x08
size_bits width.Byte = 0x10

-- bit 3 of an operation or a jump
abbrev pub operand_bit : Operand → ℕ
operand_bit (operand.Constant k) = 0
operand_bit operand.X = 0x08

-- the constant of an operand, 0 for the index register
abbrev pub constant_in : Operand → ℕ
constant_in (operand.Constant k) = k
constant_in operand.X = 0

-- the bits from 4 on of an operation
abbrev pub arithmetic_bits : Arithmetic → ℕ
arithmetic_bits arithmetic.Add = 0x00
arithmetic_bits arithmetic.Subtract = 0x10
arithmetic_bits arithmetic.Multiply = 0x20
arithmetic_bits arithmetic.Divide = 0x30
arithmetic_bits arithmetic.Or = 0x40
arithmetic_bits arithmetic.And = 0x50
arithmetic_bits arithmetic.ShiftLeft = 0x60
arithmetic_bits arithmetic.ShiftRight = 0x70
arithmetic_bits arithmetic.Modulo = 0x90
arithmetic_bits arithmetic.Xor = 0xa0

-- the bits from 4 on of a conditional jump
abbrev pub comparison_bits : Comparison → ℕ
comparison_bits comparison.Equal = 0x10
comparison_bits comparison.Greater = 0x20
comparison_bits comparison.GreaterOrEqual = 0x30
comparison_bits comparison.AnyBit = 0x40

-- an instruction that isn't a conditional jump
abbrev pub with_constant : ℕ → ℕ → Instruction
with_constant code k = record { code = code; jt = 0; jf = 0; k = k }

-- the instruction of an operation
abbrev pub instruction_of : Operation → Instruction
instruction_of (operation.LoadConstant r k) = with_constant (register_bit r) k
instruction_of (operation.LoadMemory r k) = with_constant (0x60 + register_bit r) k
instruction_of (operation.LoadLength r) = with_constant (0x80 + register_bit r) 0
instruction_of (operation.LoadAbsolute w k) = with_constant (0x20 + size_bits w) k
instruction_of (operation.LoadIndirect w k) = with_constant (0x40 + size_bits w) k
instruction_of (operation.LoadHeaderLength k) = with_constant 0xb1 k
instruction_of (operation.Store r k) = with_constant (0x02 + register_bit r) k
instruction_of (operation.Compute f o) = with_constant (0x04 + arithmetic_bits f + operand_bit o) (constant_in o)
instruction_of operation.Negate = with_constant 0x84 0
instruction_of (operation.Jump k) = with_constant 0x05 k
instruction_of (operation.Branch c o jt jf) =
    record { code = 0x05 + comparison_bits c + operand_bit o; jt = jt; jf = jf; k = constant_in o }
instruction_of (operation.ReturnConstant k) = with_constant 0x06 k
instruction_of operation.ReturnAccumulator = with_constant 0x16 0
instruction_of operation.CopyToIndex = with_constant 0x07 0
instruction_of operation.CopyToAccumulator = with_constant 0x87 0
