use Rattle.etherparse_ip.proofs.PacketEqualLemmas.{same_packets}
use Rattle.check_api.proofs.packet_checks.ip_packets.Goals as goal

pub returns-clause-same : goal.returns-clause-same
returns-clause-same c = same_packets c.args.a.now c.args.b.now _ c.eq.ensures
