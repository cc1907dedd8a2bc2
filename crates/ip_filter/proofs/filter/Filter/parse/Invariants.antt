use Rattle.std.proofs.Common.{length}
use Rattle.ip_filter.specs.Words.{words}
use Rattle.ip_filter.proofs.ParseLemmas.{Going}
use Rattle.ip_filter.proofs.filter.Filter.parse.Given as goal

abbrev pub invariant-words : goal.invariant-words
invariant-words l = Going l.text l.rest l.builder

abbrev pub decreases-words : goal.decreases-words
decreases-words l = length (words l.rest)
