use Rattle.ip_spec.proofs.Common.{List, ExtHeader, ◌≡◌, []}
use Rattle.ip_ext_chains.proofs.ReadingLemmas.{IsReading, AreOccupied, free_places}
use Rattle.ip_ext_chains.proofs.ipv6_exts.Ipv6Extensions.read_headers.Given as goal

abbrev pub invariant-headers : goal.invariant-headers
invariant-headers g l = (c : List ExtHeader) × IsReading l.fn.start_ip_number.0 c l.number.0 l.self l.is_first
    × g.S.HeaderSource.have_read l.fn.reader l.reader c × (g.S.HeaderSource.is_steady l.reader ≡ g.S.HeaderSource.is_steady l.fn.reader) × (c ≡ [] → l.reader ≡ l.fn.reader) × AreOccupied l.occupied l.self

abbrev pub decreases-headers : goal.decreases-headers
decreases-headers g l = free_places l.self
