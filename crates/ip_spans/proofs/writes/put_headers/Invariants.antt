use Rattle.ip_spans.proofs.WrittenLemmas.{Putting}
use Rattle.ip_spans.proofs.writes.put_headers.Given as goal

abbrev pub invariant-headers : goal.invariant-headers
invariant-headers l = Putting l.bytes l.spans l.fn.out l.span-index l.at l.out
