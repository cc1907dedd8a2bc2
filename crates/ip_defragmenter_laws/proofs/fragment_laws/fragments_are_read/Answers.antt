use Rattle.ip_defragmenter_laws.proofs.Ipv4Lemmas.{read_ipv4}
use Rattle.ip_defragmenter_laws.proofs.Ipv6Lemmas.{read_ipv6}
use Rattle.ip_defragmenter_laws.proofs.fragment_laws.fragments_are_read.Goals as goal

pub returns : goal.returns
returns c = record {
  ipv4 = λ s pieces p f sent split among is. let r = read_ipv4 s pieces p f sent split among is in (r.parts, r.read, r.key, r.part.piece, r.part.sound);
  ipv6 = λ s n link id pieces p f sent few split among is. let r = read_ipv6 s n link id pieces p f sent few split among is in (r.parts, r.read, r.key, r.part.piece, r.part.sound);
}
