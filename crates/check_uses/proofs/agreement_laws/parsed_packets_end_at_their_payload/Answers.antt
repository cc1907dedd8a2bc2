use Rattle.check_uses.proofs.AcceptedLemmas.{no_packet_accepted, ipv4_accepted, ipv6_accepted}
use Rattle.check_uses.proofs.agreement_laws.parsed_packets_end_at_their_payload.Goals as goal

pub returns : goal.returns
returns c = record { no_packet = no_packet_accepted; ipv4 = ipv4_accepted; ipv6 = ipv6_accepted }
