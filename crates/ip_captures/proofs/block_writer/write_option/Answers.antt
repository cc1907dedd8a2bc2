use Rattle.std.proofs.Common.{arith}
use Rattle.ip_captures.proofs.WriterLemmas.{is_option}
use Rattle.ip_captures.proofs.block_writer.write_option.Goals as goal

pub returns-clause-option : goal.returns-clause-option
returns-clause-option c =
    let parts = c.put_parts.ensures.parts in
    is_option c.args.order c.args.code c.in-Ok.value_len c.option_head-head.result c.args.value.now parts.0 _ (omega arith) c.option_head-head.ensures.code c.option_head-head.ensures.len
    c.in-Ok.ensures.1 parts.1 parts.2
