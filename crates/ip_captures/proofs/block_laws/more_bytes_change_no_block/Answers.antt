use Rattle.ip_captures.proofs.BlockLists.{more_blocks, same_frame, same_error}
use Rattle.ip_captures.proofs.block_laws.more_bytes_change_no_block.Goals as goal

pub returns : goal.returns
returns c = record { blocks = more_blocks; frame = same_frame; error = same_error }
