use Rattle.ip_dissect.specs.Dissection.{dissected}
use Rattle.ip_rewrite.specs.Request.{cleared_if}
use Rattle.ip_rewrite.specs.Selection.{kept}
use Rattle.ip_rewrite.specs.Writing.{AreWritten, below_rank}
use Rattle.ip_rewrite.proofs.writer.write_in_order.Given as goal

abbrev pub invariant-loop-rank : goal.invariant-loop-rank
invariant-loop-rank l =
    AreWritten l.offset (dissected l.packet.bytes.now).base l.fn.out (below_rank l.rank l.last_routing (cleared_if l.request.clears (kept l.request.without (dissected l.packet.bytes.now).headers))) l.out l.written.len l.written.link
