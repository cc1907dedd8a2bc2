use Rattle.ip_spans.proofs.SpanLemmas.{dissection_fits}
use Rattle.ip_spans.proofs.dissection_parts.PartsAndSpansWalkVisitor.end.Goals as goal

pub returns : goal.returns
returns c = λ old before. record {
  same_parts = before.0;
  same_spans = before.1;
  parts = c.put.ensures;
  spans = before.2;
  within = dissection_fits _ _ _ c.args.packet.now.base_is c.put.ensures;
}
