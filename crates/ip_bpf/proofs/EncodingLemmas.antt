-- The instruction of an operation is decoded as that operation.
use Rattle.std.proofs.Common.{◌≡◌, refl}
use Rattle.std.specs.Prelude.{Some}
use Rattle.ip_bpf.specs.Codes.{operation_of}
use Rattle.ip_bpf.specs.Encoding.{instruction_of}
use Rattle.ip_bpf.specs.declared.instruction.Operation.{Operation}
use Rattle.ip_bpf.specs.declared.instruction.Operation.TheVariants.{LoadConstant, LoadMemory, LoadLength, LoadAbsolute, LoadIndirect, LoadHeaderLength, Store, Compute, Negate, Jump, Branch, ReturnConstant, ReturnAccumulator, CopyToIndex, CopyToAccumulator}
use Rattle.ip_bpf.specs.declared.instruction.Register.TheVariants.{A, X}
use Rattle.ip_bpf.specs.declared.instruction.Operand.{Operand}
use Rattle.ip_bpf.specs.declared.instruction.Operand.TheVariants as operand
use Rattle.ip_bpf.specs.declared.instruction.Width.TheVariants.{Word, HalfWord, Byte}
use Rattle.ip_bpf.specs.declared.instruction.Arithmetic.{Arithmetic}
use Rattle.ip_bpf.specs.declared.instruction.Arithmetic.TheVariants.{Add, Subtract, Multiply, Divide, Or, And, ShiftLeft, ShiftRight, Modulo, Xor}
use Rattle.ip_bpf.specs.declared.instruction.Comparison.TheVariants.{Equal, Greater, GreaterOrEqual, AnyBit}

computes : (f : Arithmetic) (o : Operand) → operation_of (instruction_of (Compute f o)) ≡ Some (Compute f o)
computes Add (operand.Constant k) = refl
computes Add operand.X = refl
computes Subtract (operand.Constant k) = refl
computes Subtract operand.X = refl
computes Multiply (operand.Constant k) = refl
computes Multiply operand.X = refl
computes Divide (operand.Constant k) = refl
computes Divide operand.X = refl
computes Or (operand.Constant k) = refl
computes Or operand.X = refl
computes And (operand.Constant k) = refl
computes And operand.X = refl
computes ShiftLeft (operand.Constant k) = refl
computes ShiftLeft operand.X = refl
computes ShiftRight (operand.Constant k) = refl
computes ShiftRight operand.X = refl
computes Modulo (operand.Constant k) = refl
computes Modulo operand.X = refl
computes Xor (operand.Constant k) = refl
computes Xor operand.X = refl

pub decoded : (o : Operation) → operation_of (instruction_of o) ≡ Some o
decoded (LoadConstant A k) = refl
decoded (LoadConstant X k) = refl
decoded (LoadMemory A k) = refl
decoded (LoadMemory X k) = refl
decoded (LoadLength A) = refl
decoded (LoadLength X) = refl
decoded (LoadAbsolute Word k) = refl
decoded (LoadAbsolute HalfWord k) = refl
decoded (LoadAbsolute Byte k) = refl
decoded (LoadIndirect Word k) = refl
decoded (LoadIndirect HalfWord k) = refl
decoded (LoadIndirect Byte k) = refl
decoded (LoadHeaderLength k) = refl
decoded (Store A k) = refl
decoded (Store X k) = refl
decoded (Compute f o) = computes f o
decoded Negate = refl
decoded (Jump k) = refl
decoded (Branch Equal (operand.Constant k) jt jf) = refl
decoded (Branch Equal operand.X jt jf) = refl
decoded (Branch Greater (operand.Constant k) jt jf) = refl
decoded (Branch Greater operand.X jt jf) = refl
decoded (Branch GreaterOrEqual (operand.Constant k) jt jf) = refl
decoded (Branch GreaterOrEqual operand.X jt jf) = refl
decoded (Branch AnyBit (operand.Constant k) jt jf) = refl
decoded (Branch AnyBit operand.X jt jf) = refl
decoded (ReturnConstant k) = refl
decoded ReturnAccumulator = refl
decoded CopyToIndex = refl
decoded CopyToAccumulator = refl
