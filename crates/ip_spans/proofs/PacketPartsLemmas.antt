-- The parts of the packet at the start of bytes.
use Rattle.ip_spec.proofs.Common.{rules, ◌≡◌, ℕ, ◌+◌, ◌≤◌, List, length, arith, common_steps, bytes_of}
use Rattle.std.proofs.Common.{◌==◌, if◌then◌else◌, length-append}
use Rattle.ip_base.specs.Ipv4Header.{version}
use Rattle.ip_base.specs.declared.len_source.LenSource.{LenSource}
use Rattle.etherparse_ip.specs.LenSources.{front}
use Rattle.etherparse_ip.specs.Packet.{Parts, IsIpv4Packet, IsIpv6Packet}
use Rattle.etherparse_ip.specs.PartsIn.{ipv4_parts_in, ipv6_parts_in}
use Rattle.etherparse_ip.proofs.OnePacketLemmas.{ipv4_version, ipv6_version, ipv4_parts_are, ipv6_parts_are}
use Rattle.ip_spans.specs.HeaderSpan.{filled}
use Rattle.ip_spans.specs.PacketParts.{packet_parts, packet_spans, parts_in, IsPacketParts}
use Rattle.ip_spans.specs.declared.header_span.HeaderSpan.{HeaderSpan}
use Rattle.ip_spans.specs.declared.packet_parts.PacketParts.{PacketParts}

-- a function of a version and parts, applied to the ones that the bytes have
said_in : {Y : Type 0} (f : ℕ → Parts → Y) (s : List ℕ) (v : ℕ) (p : Parts) → version s ≡ v → p ≡ (if v == 4 then ipv4_parts_in s else ipv6_parts_in s) → f v p ≡ f (version s) (parts_in s)
said_in f s v p is_version are_parts = cc (is_version, are_parts)

pub in_ipv4 : {Y : Type 0} (f : ℕ → Parts → Y) (s : List ℕ) (p : Parts) → IsIpv4Packet s p → f 4 p ≡ f (version s) (parts_in s)
in_ipv4 f s p is_packet = said_in f s 4 p (ipv4_version s p is_packet) (ipv4_parts_are s p is_packet)

pub in_ipv6 : {Y : Type 0} (f : ℕ → Parts → Y) (s : List ℕ) (p : Parts) → IsIpv6Packet s p → f 6 p ≡ f (version s) (parts_in s)
in_ipv6 f s p is_packet = said_in f s 6 p (ipv6_version s p is_packet) (ipv6_parts_are s p is_packet)

pub parts_of_ipv4 : (s : List ℕ) (p : Parts) (old new : List HeaderSpan) (parts : PacketParts) → IsIpv4Packet s p → parts ≡ packet_parts 4 p → new ≡ filled (packet_spans p) old → IsPacketParts s old parts new
parts_of_ipv4 s p old new parts is_packet fields spans = search (rules, ipv4_version s p is_packet, ipv4_parts_are s p is_packet)

pub parts_of_ipv6 : (s : List ℕ) (p : Parts) (old new : List HeaderSpan) (parts : PacketParts) → IsIpv6Packet s p → parts ≡ packet_parts 6 p → new ≡ filled (packet_spans p) old → IsPacketParts s old parts new
parts_of_ipv6 s p old new parts is_packet fields spans = search (rules, ipv6_version s p is_packet, ipv6_parts_are s p is_packet)

-- the front by a source isn't longer than the bytes
front_within : (by : LenSource) (n : ℕ) (s : List ℕ) → length (front by n s) ≤ length s
front_within by n s = grind (arith, common_steps)

pub ipv6_within : (s : List ℕ) (p : Parts) → IsIpv6Packet s p → length p.base + length (bytes_of p.headers) + length p.payload ≤ length s
ipv6_within s p is_packet = grind (arith, common_steps, front_within, length-append)
