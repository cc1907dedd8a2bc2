use Rattle.std.proofs.Common.{arith, length}
use Rattle.ip_captures.proofs.WriterLemmas.{IsPacketHead, is_packet}
use Rattle.ip_captures.proofs.block_writer.EnhancedPacket.write.Goals as goal

pub returns-in-Err-clause-error : goal.returns-in-Err-clause-error
returns-in-Err-clause-error c = c.in-Err.ensures.error (length c.args.out.now)

pub returns-clause-block : goal.returns-clause-block
returns-clause-block c =
    let head : IsPacketHead c.args.order c.args.self.now c.in-Ok.len c.head-head.result = record {
      len = omega arith;
      ordered = c.head-head.ensures.order;
      type = c.head-head.ensures.kind;
      total = c.head-head.ensures.len;
      interface = c.head-head.ensures.interface;
      ticks = c.head-head.ensures.ticks;
      captured = c.head-head.ensures.captured;
      original = c.head-head.ensures.original;
    } in
    let parts = c.put_parts.ensures.parts in
    is_packet c.args.order c.args.self.now c.in-Ok.len c.head-head.result parts.0 c.bytes_of-last.result _ head c.in-Ok.ensures.options c.in-Ok.ensures.len parts.1 c.bytes_of-last.ensures (omega arith) parts.2
