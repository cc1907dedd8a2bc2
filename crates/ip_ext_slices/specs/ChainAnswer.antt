-- The result of a parse of a borrowed IPv6 chain.
use Rattle.std.specs.Prelude.{ℕ, List, Option}
use Rattle.ip_base.specs.declared.len_source.LenSource.TheVariants.{Slice}
use Rattle.ip_spec.specs.Chain.{ExtHeader}
use Rattle.ip_spec.specs.Parse.{IsAnswer}
use Rattle.ip_ext_slices.specs.Longest.{longest_chain}
use Rattle.ip_ext_slices.specs.ChainFault.{Fault, chain_faults}

-- the result for the longest chain, whose value is all of its headers
abbrev pub IsChainAnswer : ℕ → List ℕ → List ExtHeader → ℕ → List ℕ → Option Fault → Type 0
IsChainAnswer n s = IsAnswer (λ c. c) (chain_faults Slice) (longest_chain n s) n s
