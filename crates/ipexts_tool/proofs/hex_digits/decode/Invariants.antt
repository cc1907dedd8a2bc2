use Rattle.std.proofs.Common.{◌≡◌, ◌-◌, ◌*◌, ◌≤◌, length, take, Ok}
use Rattle.hex.specs.Hex.{decode_of}
use Rattle.ipexts_tool.proofs.hex_digits.decode.Given as goal

-- the bytes before this block are decoded
abbrev pub invariant-blocks-2 : goal.invariant-blocks-2
invariant-blocks-2 l = record { inside : l.at ≤ length l.bytes; decoded : decode_of (take (2 * l.at) l.text) ≡ Ok (take l.at l.bytes) }

abbrev pub decreases-blocks-2 : goal.decreases-blocks-2
decreases-blocks-2 l = length l.bytes - l.at
