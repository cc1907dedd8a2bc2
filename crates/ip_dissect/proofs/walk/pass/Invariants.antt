use Rattle.ip_spec.proofs.Common.{length, List, ExtHeader}
use Rattle.ip_dissect.proofs.LaterLemmas.{WalkState}
use Rattle.ip_dissect.proofs.walk.pass.Given as goal

-- the visitor has visited the headers so far
abbrev pub invariant-headers : goal.invariant-headers
invariant-headers g l = (c : List ExtHeader) × WalkState l.fn.start.0 l.bytes c l.number.0 l.rest l.found × g.V.HeaderVisitor.visited l.initial.visitor l.offset c l.visitor

abbrev pub decreases-headers : goal.decreases-headers
decreases-headers g l = length l.rest
