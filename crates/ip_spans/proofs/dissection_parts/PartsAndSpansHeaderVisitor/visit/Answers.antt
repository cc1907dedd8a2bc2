use Rattle.ip_spans.proofs.SpanLemmas.{span_put, span_left}
use Rattle.ip_spans.proofs.dissection_parts.PartsAndSpansHeaderVisitor.visit.Goals as goal

pub returns-then-index-self : goal.returns-then-index-self
returns-then-index-self c = λ old k d before index offset. (before.0, before.1, span_put old.spans.now _ k c.args.index c.args.offset d (record { number = c.args.number.0; bytes = c.args.header.now }) before.2 index offset _ c.put.ensures c.if-index-self.true)

pub returns-else-index-self : goal.returns-else-index-self
returns-else-index-self c = λ old k d before index offset. (before.0, before.1, span_left old.spans.now _ k c.args.index c.args.offset d (record { number = c.args.number.0; bytes = c.args.header.now }) before.2 index offset c.if-index-self.false)
