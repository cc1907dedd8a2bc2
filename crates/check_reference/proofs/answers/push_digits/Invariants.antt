use Rattle.ip_spec.proofs.Common.{◌≡◌, ◌++◌, drop, string_bytes}
use Rattle.hex.specs.Hex.{encode_lower}
use Rattle.check_reference.proofs.answers.push_digits.Given as goal

-- the digits so far and those of the remaining bytes are all digits
abbrev pub invariant-loop-byte : goal.invariant-loop-byte
invariant-loop-byte l = string_bytes l.text ++ encode_lower (drop l.byte-index l.bytes) ≡ string_bytes l.fn.text ++ encode_lower l.bytes
