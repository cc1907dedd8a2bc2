use Rattle.ip_spec.proofs.Common.{ap, arith, [], Consumes-nil, AuthFields}
use Rattle.ip_ext_chains.proofs.Ipv4ReadingLemmas.{none_answers, one_answers, fault_same}
use Rattle.ip_ext_chains.proofs.ipv4_exts.Ipv4Extensions.read.Goals as goal

pub returns-then-ne-clause-answer : goal.returns-then-ne-clause-answer
returns-then-ne-clause-answer g c = record { bytes = []; consumed = Consumes-nil _; answer = none_answers _ (grind arith) }

pub returns-in-Ok-clause-answer : goal.returns-in-Ok-clause-answer
returns-in-Ok-clause-answer g c =
    let t = c.in-Ok.ensures.header in
    record { bytes = t.bytes; consumed = t.consumed; answer = one_answers _ t.bytes _ _ (grind arith) t.header t.fields (ap (λ (h : AuthFields). h.next_header) c.header.view_is) }

pub returns-in-Err-clause-fault : goal.returns-in-Err-clause-fault
returns-in-Err-clause-fault g c = rw (fault_same c.args.start_ip_number.0 (grind arith)) at c.in-Err.ensures.fault
