-- The longest chain at the start of bytes.
use Rattle.std.specs.Prelude.{ℕ, List, [], Bool, ◌==◌, if◌then◌else◌}
use Rattle.ip_spec.specs.Numbers.{HOP_BY_HOP}
use Rattle.ip_spec.specs.Chain.{ExtHeader}
use Rattle.ip_spec.proofs.ChainLemmas.{some_longest}

-- There is always exactly one: this is it. Only `IsLongestChain` is known about it.
abbrev pub longest_chain : ℕ → List ℕ → List ExtHeader
longest_chain n s = (some_longest n s).0

-- The longest chain, where `first` says that no header precedes: only then does number 0 start a chain (RFC 8200,
-- section 4.1).
abbrev pub longest_from : Bool → ℕ → List ℕ → List ExtHeader
longest_from first n s = if first then longest_chain n s else (if n == HOP_BY_HOP then [] else longest_chain n s)
