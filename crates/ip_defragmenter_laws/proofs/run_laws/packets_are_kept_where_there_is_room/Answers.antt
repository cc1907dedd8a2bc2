use Rattle.ip_defragmenter_laws.proofs.RoomLemmas.{all_kept, nothing_lost}
use Rattle.ip_defragmenter_laws.proofs.run_laws.packets_are_kept_where_there_is_room.Goals as goal

pub returns : goal.returns
returns c = record {
  nothing = λ names settings start end calls fresh few run named timely. nothing_lost names settings start calls end fresh few run named timely;
  kept = all_kept;
}
