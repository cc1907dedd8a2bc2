-- The codes of operations, as the kernel's check knows them (Linux, Documentation/networking/filter.rst, "BPF engine and instruction set";
-- bpf(4), "FILTER MACHINE"). The low 3 bits are the class.
use Rattle.std.specs.Prelude.{ℕ, ◌%◌, ◌/◌, ◌==◌, Option, Some, None, if◌then◌else◌}
use Rattle.std.specs.Option.{option_map}
use Rattle.ip_bpf.specs.declared.instruction.Instruction.{Instruction}
use Rattle.ip_bpf.specs.declared.instruction.Register.TheVariants as register
use Rattle.ip_bpf.specs.declared.instruction.Operand.{Operand}
use Rattle.ip_bpf.specs.declared.instruction.Operand.TheVariants as operand
use Rattle.ip_bpf.specs.declared.instruction.Width.{Width}
use Rattle.ip_bpf.specs.declared.instruction.Width.TheVariants as width
use Rattle.ip_bpf.specs.declared.instruction.Arithmetic.{Arithmetic}
use Rattle.ip_bpf.specs.declared.instruction.Arithmetic.TheVariants as arithmetic
use Rattle.ip_bpf.specs.declared.instruction.Comparison.{Comparison}
use Rattle.ip_bpf.specs.declared.instruction.Comparison.TheVariants as comparison
use Rattle.ip_bpf.specs.declared.instruction.Operation.{Operation}
use Rattle.ip_bpf.specs.declared.instruction.Operation.TheVariants as operation

-- ld, ldh and ldb: bits 3 and 4 of the code are the size
abbrev pub width_of : ℕ → Option Width
width_of size =
    if size == 0 then Some width.Word
    else if size == 1 then Some width.HalfWord
    else if size == 2 then Some width.Byte
    else None

-- ld, ldh and ldb of the packet: the bits from 5 on are the mode, 1 for an absolute offset and 2 for one from X
abbrev pub packet_load_of : ℕ → ℕ → Option Operation
packet_load_of code k =
    if code / 32 == 1 then option_map (λ w. operation.LoadAbsolute w k) (width_of (code / 8 % 4))
    else if code / 32 == 2 then option_map (λ w. operation.LoadIndirect w k) (width_of (code / 8 % 4))
    else None

-- class ld: ld #k, ld M[k], ld len, and loads of the packet
abbrev pub load_of : ℕ → ℕ → Option Operation
load_of code k =
    if code == 0x00 then Some (operation.LoadConstant register.A k)
    else if code == 0x60 then Some (operation.LoadMemory register.A k)
    else if code == 0x80 then Some (operation.LoadLength register.A)
    else packet_load_of code k

-- class ldx: ldx #k, ldx M[k], ldx len, and ldxb 4*([k]&0xf)
abbrev pub index_load_of : ℕ → ℕ → Option Operation
index_load_of code k =
    if code == 0x01 then Some (operation.LoadConstant register.X k)
    else if code == 0x61 then Some (operation.LoadMemory register.X k)
    else if code == 0x81 then Some (operation.LoadLength register.X)
    else if code == 0xb1 then Some (operation.LoadHeaderLength k)
    else None

-- classes st and stx
abbrev pub store_of : ℕ → ℕ → Option Operation
store_of code k =
    if code == 0x02 then Some (operation.Store register.A k)
    else if code == 0x03 then Some (operation.Store register.X k)
    else None

-- bit 3 of an operation or a jump says whether its operand is k or X
abbrev pub operand_of : ℕ → ℕ → Operand
operand_of code k = if code / 8 % 2 == 0 then operand.Constant k else operand.X

-- the bits from 4 on: add, sub, mul, div, or, and, lsh, rsh, (neg), mod, xor
abbrev pub arithmetic_of : ℕ → Option Arithmetic
arithmetic_of number =
    if number == 0 then Some arithmetic.Add
    else if number == 1 then Some arithmetic.Subtract
    else if number == 2 then Some arithmetic.Multiply
    else if number == 3 then Some arithmetic.Divide
    else if number == 4 then Some arithmetic.Or
    else if number == 5 then Some arithmetic.And
    else if number == 6 then Some arithmetic.ShiftLeft
    else if number == 7 then Some arithmetic.ShiftRight
    else if number == 9 then Some arithmetic.Modulo
    else if number == 10 then Some arithmetic.Xor
    else None

-- class alu
abbrev pub computation_of : ℕ → ℕ → Option Operation
computation_of code k =
    if code == 0x84 then Some operation.Negate
    else option_map (λ a. operation.Compute a (operand_of code k)) (arithmetic_of (code / 16))

-- the bits from 4 on: (ja), jeq, jgt, jge, jset
abbrev pub comparison_of : ℕ → Option Comparison
comparison_of number =
    if number == 1 then Some comparison.Equal
    else if number == 2 then Some comparison.Greater
    else if number == 3 then Some comparison.GreaterOrEqual
    else if number == 4 then Some comparison.AnyBit
    else None

-- class jmp
abbrev pub jump_of : Instruction → Option Operation
jump_of i =
    if i.code == 0x05 then Some (operation.Jump i.k)
    else option_map (λ c. operation.Branch c (operand_of i.code i.k) i.jt i.jf) (comparison_of (i.code / 16))

-- class ret
abbrev pub return_of : ℕ → ℕ → Option Operation
return_of code k =
    if code == 0x06 then Some (operation.ReturnConstant k)
    else if code == 0x16 then Some operation.ReturnAccumulator
    else None

-- class misc: tax and txa
abbrev pub copy_of : ℕ → Option Operation
copy_of code =
    if code == 0x07 then Some operation.CopyToIndex
    else if code == 0x87 then Some operation.CopyToAccumulator
    else None

-- what an instruction does, if the kernel knows its code
abbrev pub operation_of : Instruction → Option Operation
operation_of i =
    let class = i.code % 8 in
    if class == 0 then load_of i.code i.k
    else if class == 1 then index_load_of i.code i.k
    else if class == 2 then store_of i.code i.k
    else if class == 3 then store_of i.code i.k
    else if class == 4 then computation_of i.code i.k
    else if class == 5 then jump_of i
    else if class == 6 then return_of i.code i.k
    else copy_of i.code
