use Rattle.std.proofs.Common.{◌≡◌, ◌+◌, ◌++◌, take}
use Rattle.arrayvec.specs.ArrayVec.{array_vec_len}
use Rattle.ip_ext_headers.proofs.appending.append_block.Given as goal

abbrev pub invariant-loop-byte : goal.invariant-loop-byte
invariant-loop-byte g l = (l.to.items ≡ l.fn.to.items ++ take l.byte-index l.byte-items) × (array_vec_len l.to ≡ array_vec_len l.fn.to + l.byte-index)
