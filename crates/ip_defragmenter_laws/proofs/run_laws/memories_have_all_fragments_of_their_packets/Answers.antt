use Rattle.ip_defragmenter_laws.proofs.PendingLemmas.{pending_run}
use Rattle.ip_defragmenter_laws.proofs.run_laws.memories_have_all_fragments_of_their_packets.Goals as goal

pub returns : goal.returns
returns c = λ settings context k start end calls is_k fresh run pending. (pending_run settings context k start end calls is_k fresh run pending).is_in
