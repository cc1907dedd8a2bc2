use Rattle.std.proofs.Common.{ℕ, List, ◌++◌, take}
use Rattle.ip_chain_counts.specs.KeyBytes.{HasBytes}
use Rattle.ip_chain_counts.proofs.key_bytes.KeyBytes.extend.Given as goal

abbrev pub invariant-bytes : goal.invariant-bytes
invariant-bytes l = (xs : List ℕ) → HasBytes l.initial.self xs → HasBytes l.self (xs ++ take l.byte-index l.bytes)
