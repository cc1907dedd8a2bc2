use Rattle.check_uses.proofs.AgreementLemmas.{ipv4_agrees, ipv6_agrees}
use Rattle.check_uses.proofs.agreement_laws.parsed_packets_have_these_parts.Goals as goal

pub returns : goal.returns
returns c = record { ipv4 = ipv4_agrees; ipv6 = ipv6_agrees }
