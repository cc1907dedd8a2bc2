use Rattle.ip_spec.proofs.Common.{rules}
use Rattle.ipexts_tool.specs.OpenLine.{kept_len}
use Rattle.ipexts_tool.proofs.OpenLineLemmas.{take-room}
use Rattle.ipexts_tool.proofs.feed.keep.Goals as goal

pub returns : goal.returns
returns c = rw (← take-room kept_len c.remaining_capacity.result c.args.line.now.items c.args.part.now (search rules)) (search rules)
