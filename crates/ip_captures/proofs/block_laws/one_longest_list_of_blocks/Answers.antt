use Rattle.ip_captures.proofs.BlockLists.{blocks_longest, one_longest_list, first_blocks}
use Rattle.ip_captures.proofs.block_laws.one_longest_list_of_blocks.Goals as goal

pub returns : goal.returns
returns c = record { some = blocks_longest; only = one_longest_list; longest = first_blocks }
