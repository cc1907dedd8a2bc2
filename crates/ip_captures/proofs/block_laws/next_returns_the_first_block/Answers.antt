use Rattle.ip_captures.proofs.BlockLists.{some_block, no_block}
use Rattle.ip_captures.proofs.block_laws.next_returns_the_first_block.Goals as goal

pub returns : goal.returns
returns c = record { some = some_block; none = no_block }
