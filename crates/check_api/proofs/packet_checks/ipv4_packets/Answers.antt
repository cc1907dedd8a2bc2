use Rattle.etherparse_ip.proofs.PacketEqualLemmas.{ipv4_same}
use Rattle.check_api.proofs.packet_checks.ipv4_packets.Goals as goal

pub returns-clause-same : goal.returns-clause-same
returns-clause-same c = ipv4_same c.args.a.now c.args.b.now _ c.eq.ensures
