use Rattle.ip_spec.proofs.Common.{arith}
use Rattle.ip_spans.proofs.WrittenLemmas.{putting_more}
use Rattle.ip_spans.proofs.writes.put_headers.Goals as goal

pub headers-preserved : goal.headers-preserved
headers-preserved c = putting_more _ _ _ _ _ _ _ _ _ c.headers.invariant c.headers.auto.out c.headers-test.true (omega arith) c.put_header.ensures
