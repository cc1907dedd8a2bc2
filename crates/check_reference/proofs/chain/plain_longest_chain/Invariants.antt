use Rattle.ip_spec.proofs.Common.{length, map}
use Rattle.check_reference.specs.PlainHeader.{plain_header_of}
use Rattle.ip_spec.proofs.ParsedLemmas.{HasParsed}
use Rattle.check_reference.proofs.chain.plain_longest_chain.Given as goal

abbrev pub invariant-headers : goal.invariant-headers
invariant-headers l = HasParsed l.start l.bytes (map plain_header_of l.headers.items) l.number l.rest

abbrev pub decreases-headers : goal.decreases-headers
decreases-headers l = length l.rest
