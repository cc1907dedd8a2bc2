use Rattle.std.proofs.Common.{◌≡◌, ◌+◌, ◌≤◌, arith, length, take}
use Rattle.std.proofs.lemmas.List.{length-take-le}
use Rattle.ip_captures.proofs.WriterLemmas.{IsInterfaceHead, is_description, unpadded}
use Rattle.ip_captures.proofs.interface.Interface.write.Goals as goal

pub returns-in-Err-clause-error : goal.returns-in-Err-clause-error
returns-in-Err-clause-error c = c.in-Err.ensures.error (length c.args.out.now)

pub returns-clause-described : goal.returns-clause-described
returns-clause-described c =
    let n = 20 + c.in-Ok.len in
    let head : IsInterfaceHead c.args.order c.args.self.now n c.head-head.result = record {
      len = omega arith;
      ordered = c.head-head.ensures.order;
      type = c.head-head.ensures.kind;
      total = c.head-head.ensures.len;
      link_type = c.head-head.ensures.link_type;
      snap_len = c.head-head.ensures.snap_len;
    } in
    let parts = c.put_parts.ensures.parts in
    let fits : c.in-Ok.len ≤ length c.put_options.new.out = omega (arith, c.in-Ok.ensures.len, c.in-Ok.ensures.size) in
    let len : length (take c.in-Ok.len c.put_options.new.out) ≡ c.in-Ok.len = length-take-le c.in-Ok.len c.put_options.new.out fits in
    is_description c.args.order c.args.self.now n c.head-head.result (take c.in-Ok.len c.put_options.new.out) c.bytes_of-last.result _ head c.in-Ok.ensures.options (omega (arith, len))
    c.in-Ok.ensures.ticks c.in-Ok.ensures.offset c.bytes_of-last.ensures (omega arith)
    (unpadded c.head-head.result parts.0 (take c.in-Ok.len c.put_options.new.out) c.bytes_of-last.result _ parts.1 parts.2)
