-- What follows the headers: the header of a transport protocol, or an ICMP message.
use Rattle.std.specs.Prelude.{ℕ, ◌+◌, ◌*◌, ◌/◌, ◌%◌, List, [], length, slice_index, slice_range, bit_and, Bool, true, false, ◌==◌, ◌&&◌, ◌||◌, nat_lt, nat_le, if◌then◌else◌, Option, Some, None}
use Rattle.std.specs.Int.{from_be_bytes, w16, w32}
use Rattle.std.specs.Option.{option_map_or}
use Rattle.ip_dissect.specs.Dissection.{DissectedParts}
use Rattle.ip_dissect.specs.declared.end.End.{End}
use Rattle.ip_dissect.specs.declared.end.End.TheVariants as end
use Rattle.ip_filter.specs.declared.term.Ports.{Ports}
use Rattle.ip_filter.specs.declared.term.TcpFlags.{TcpFlags}

-- The headers end at the payload, which isn't that of a later fragment.
abbrev pub is_at_payload : End → Bool
is_at_payload end.Payload = true
is_at_payload e = false

-- the bytes from the transport header on
abbrev pub transport_of : DissectedParts → List ℕ
transport_of p = if is_at_payload p.end then p.payload else []

-- The headers of TCP (RFC 9293, section 3.1), UDP (RFC 768), DCCP (RFC 4340, section 5.1), SCTP (RFC 9260, section 3.1) and
-- UDP-Lite (RFC 3828, section 3.1) begin with the source and the destination port, of 16 bits each.
abbrev pub has_ports : ℕ → Bool
has_ports n = (n == 6) || (n == 17) || (n == 33) || (n == 132) || (n == 136)

-- the port at offset i of the transport header, in network byte order, if it is there
abbrev pub port_at : ℕ → DissectedParts → Option ℕ
port_at i p =
    if has_ports p.number && nat_le (i + 2) (length (transport_of p)) then Some (from_be_bytes w16 (slice_range (transport_of p) i (i + 2)))
    else None

abbrev pub source_port : DissectedParts → Option ℕ
source_port p = port_at 0 p

abbrev pub destination_port : DissectedParts → Option ℕ
destination_port p = port_at 2 p

-- How long a header is that states its length in words of 32 bits. None if it states less than the header's fixed part.
abbrev pub words_len : ℕ → ℕ → Option ℕ
words_len fixed n = if nat_le fixed (4 * n) then Some (4 * n) else None

-- The length of a TCP header that begins the bytes b: its data offset, the high half of byte 12 (RFC 9293, section 3.1)
abbrev pub tcp_len : List ℕ → Option ℕ
tcp_len b = if nat_lt 12 (length b) then words_len 20 (slice_index b 12 / 16) else None

-- That of a DCCP header: its data offset, byte 4. The low bit of byte 8 says whether the sequence number has 48 bits, so
-- that the fixed part has 16 bytes instead of 12 (RFC 4340, section 5.1).
abbrev pub dccp_len : List ℕ → Option ℕ
dccp_len b = if nat_lt 8 (length b) then words_len (if slice_index b 8 % 2 == 1 then 16 else 12) (slice_index b 4) else None

-- How long the upper layer's header is that begins the payload b, by the version v and the protocol number n: TCP; DCCP; UDP
-- (RFC 768) and UDP-Lite (RFC 3828, section 3.1) 8 bytes; SCTP 12 (RFC 9260, section 3.1); ICMP 8 (RFC 792), ICMPv6 4 (RFC
-- 4443, section 2.1). None if the byte that states it isn't there, or states too little. Of other protocols nothing is asked.
abbrev pub upper_layer_len : ℕ → ℕ → List ℕ → Option ℕ
upper_layer_len v n b =
    if n == 6 then tcp_len b
    else if n == 33 then dccp_len b
    else if (n == 17) || (n == 136) then Some 8
    else if n == 132 then Some 12
    else if n == 1 then Some (if v == 4 then 8 else 0)
    else if n == 58 then Some (if v == 6 then 4 else 0)
    else Some 0

-- the payload b is too short for the upper layer's header
abbrev pub lacks_upper_layer : ℕ → ℕ → List ℕ → Bool
lacks_upper_layer v n b = option_map_or (λ k. nat_lt (length b) k) (upper_layer_len v n b) true

-- the packet should have an upper layer's header, but not all of it is there (RFC 7112, section 5)
abbrev pub lacks_transport : DissectedParts → Bool
lacks_transport p = is_at_payload p.end && lacks_upper_layer p.version p.number p.payload

abbrev pub is_port_in : Ports → ℕ → Bool
is_port_in r n = nat_le r.first n && nat_le n r.last

-- ICMP is of IPv4 (RFC 792), ICMPv6 of IPv6 (RFC 4443, section 1).
abbrev pub is_icmp : DissectedParts → Bool
is_icmp p = (p.version == 4) && (p.number == 1)

abbrev pub is_icmp6 : DissectedParts → Bool
is_icmp6 p = (p.version == 6) && (p.number == 58)

-- byte i from the transport header on, if it is there
abbrev pub transport_byte : ℕ → DissectedParts → Option ℕ
transport_byte i p = if nat_lt i (length (transport_of p)) then Some (slice_index (transport_of p) i) else None

-- Byte i of the message, if it is there. Messages begin with their type and code, of 8 bits each (RFC 792; RFC 4443, section
-- 2.1).
abbrev pub icmp_byte : ℕ → DissectedParts → Option ℕ
icmp_byte i p = if is_icmp p then transport_byte i p else None

abbrev pub icmp6_byte : ℕ → DissectedParts → Option ℕ
icmp6_byte i p = if is_icmp6 p then transport_byte i p else None

-- The security parameters index of ESP (RFC 4303, section 2.1): the first 32 bits, if they are there.
abbrev pub esp_spi : DissectedParts → Option ℕ
esp_spi p = if (p.number == 50) && nat_le 4 (length (transport_of p)) then Some (from_be_bytes w32 (slice_range (transport_of p) 0 4)) else None

-- byte 13 of a TCP header (RFC 9293, section 3.1), if it is there: from the high bit CWR, ECE, URG, ACK, PSH, RST, SYN, FIN
abbrev pub tcp_flags : DissectedParts → Option ℕ
tcp_flags p = if (p.number == 6) && nat_lt 13 (length (transport_of p)) then Some (slice_index (transport_of p) 13) else None

-- of the flags f that count, exactly those are set that the term names
abbrev pub are_set : TcpFlags → ℕ → Bool
are_set t f = bit_and f t.mask == t.set
