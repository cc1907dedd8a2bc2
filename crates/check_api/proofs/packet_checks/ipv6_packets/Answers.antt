use Rattle.etherparse_ip.proofs.PacketEqualLemmas.{ipv6_same}
use Rattle.check_api.proofs.packet_checks.ipv6_packets.Goals as goal

pub returns-clause-same : goal.returns-clause-same
returns-clause-same c = ipv6_same c.args.a.now c.args.b.now _ c.eq.ensures
