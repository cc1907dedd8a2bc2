-- The answer for a packet, by the result of its parse.
use Rattle.ip_spec.proofs.Common.{◌≡◌, ℕ, List, Some, None, codes}
use Rattle.ip_base.specs.Ipv4Header.{version}
use Rattle.ip_base.specs.declared.err.ip.slice_error.SliceError.{SliceError}
use Rattle.etherparse_ip.specs.Packet.{Parts}
use Rattle.etherparse_ip.specs.PartsIn.{ipv4_parts_in, ipv6_parts_in}
use Rattle.etherparse_ip.specs.PacketFault.{ip_fault}
use Rattle.ipexts_tool.specs.PacketAnswer.{parts_lines, fault_line, packet_answer}

pub ipv4_answer : (s : List ℕ) (p : Parts) → None ≡ ip_fault s → version s ≡ 4 → p ≡ ipv4_parts_in s → packet_answer s ≡ parts_lines (codes "ipv4") p
unfolding packet_answer
ipv4_answer s p ok v is = cc

pub ipv6_answer : (s : List ℕ) (p : Parts) → None ≡ ip_fault s → version s ≡ 6 → p ≡ ipv6_parts_in s → packet_answer s ≡ parts_lines (codes "ipv6") p
unfolding packet_answer
ipv6_answer s p ok v is = cc

pub fault_answer : (s : List ℕ) (e : SliceError) → Some e ≡ ip_fault s → packet_answer s ≡ fault_line e
unfolding packet_answer
fault_answer s e told = cc
