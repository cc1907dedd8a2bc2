use Rattle.ip_spec.proofs.Common.{ℕ, ◌<◌, List, length, IsHeader, IsPrefix}
use Rattle.check_reference.proofs.chain.next_len.Given as goal

-- the bytes don't start with a shorter header
abbrev pub invariant-loop-len : goal.invariant-loop-len
invariant-loop-len l = (b : List ℕ) → IsHeader l.number b → IsPrefix b l.bytes → length b < l.len → ⊥
