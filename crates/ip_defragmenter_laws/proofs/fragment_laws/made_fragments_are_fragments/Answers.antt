use Rattle.ip_defragmenter_laws.proofs.Ipv4FragmentLemmas.{ipv4_made}
use Rattle.ip_defragmenter_laws.proofs.Ipv6FragmentLemmas.{ipv6_made}
use Rattle.ip_defragmenter_laws.proofs.fragment_laws.made_fragments_are_fragments.Goals as goal

pub returns : goal.returns
returns c = record {
  ipv4 = λ s options padding start end sent is whole. ipv4_made s options start end sent is padding whole;
  ipv6 = λ s padding n link id start end c sent is whole. ipv6_made s n link id start end c sent is padding whole;
}
