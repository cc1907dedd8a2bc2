-- The longest chain that stops at the fragment header of a later fragment (RFC 8200, section 4.5).
use Rattle.std.specs.Prelude.{ℕ, List}
use Rattle.ip_spec.specs.Chain.{ExtHeader}
use Rattle.ip_spec.proofs.UnderLemmas.{some_longest_under}
use Rattle.ip_dissect.specs.LaterDemand.{NothingAfterLater, nothing_after_later}

-- There is always exactly one longest chain under the demand: this is it. Only `IsLongestUnder NothingAfterLater` is
-- known about it.
abbrev pub chain_to_later : ℕ → List ℕ → List ExtHeader
chain_to_later n s = (some_longest_under NothingAfterLater nothing_after_later n s).0
