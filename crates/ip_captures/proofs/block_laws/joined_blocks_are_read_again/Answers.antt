use Rattle.ip_captures.proofs.BlockLists.{joined_blocks}
use Rattle.ip_captures.proofs.block_laws.joined_blocks_are_read_again.Goals as goal

pub returns : goal.returns
returns c = joined_blocks
