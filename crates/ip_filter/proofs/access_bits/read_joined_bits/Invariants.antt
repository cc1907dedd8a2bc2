use Rattle.std.proofs.Common.{length}
use Rattle.ip_filter.specs.Words.{words}
use Rattle.ip_filter.proofs.AccessLemmas.{JoinedSoFar}
use Rattle.ip_filter.proofs.access_bits.read_joined_bits.Given as goal

abbrev pub invariant-names : goal.invariant-names
invariant-names l = JoinedSoFar l.text l.bits l.rest

abbrev pub decreases-names : goal.decreases-names
decreases-names l = length (words l.rest)
