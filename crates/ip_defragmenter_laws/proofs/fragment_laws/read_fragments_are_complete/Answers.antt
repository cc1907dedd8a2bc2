use Rattle.ip_defragmenter_laws.proofs.CompleteLemmas.{complete4, complete6}
use Rattle.ip_defragmenter_laws.proofs.fragment_laws.read_fragments_are_complete.Goals as goal

pub returns : goal.returns
returns c = record { ipv4 = complete4; ipv6 = complete6 }
