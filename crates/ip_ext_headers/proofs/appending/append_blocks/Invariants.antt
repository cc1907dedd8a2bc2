use Rattle.std.proofs.Common.{◌≡◌, ◌≤◌, ◌+◌, ◌-◌, ◌++◌, length, drop}
use Rattle.arrayvec.specs.ArrayVec.{array_vec_len}
use Rattle.ip_ext_headers.proofs.appending.append_blocks.Given as goal

-- the bytes before `end` are appended
abbrev pub invariant-blocks-2 : goal.invariant-blocks-2
invariant-blocks-2 g l =
    (l.to.items ++ drop l.end l.from ≡ l.fn.to.items ++ drop l.fn.start l.from)
    × (array_vec_len l.to + l.fn.start ≡ array_vec_len l.fn.to + l.end)
    × (l.end ≤ length l.from)

abbrev pub decreases-blocks-2 : goal.decreases-blocks-2
decreases-blocks-2 g l = length l.from - l.end
