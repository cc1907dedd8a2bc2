-- What accesses read: bytes of a packet, at a constant offset from the start of a header (pcap-filter(7)).
use Rattle.std.specs.Prelude.{ℕ, ◌+◌, List, [], ◌++◌, length, slice_index, slice_range, Bool, ◌==◌, nat_le, if◌then◌else◌, Option, Some, None}
use Rattle.std.specs.Int.{from_be_bytes, w16, w32}
use Rattle.ip_spec.specs.Chain.{bytes_of}
use Rattle.ip_dissect.specs.Dissection.{DissectedParts}
use Rattle.ip_filter.specs.Transport.{is_icmp, is_icmp6, transport_of}
use Rattle.ip_filter.specs.declared.term.AccessedHeader.{AccessedHeader}
use Rattle.ip_filter.specs.declared.term.AccessedHeader.TheVariants as from
use Rattle.ip_filter.specs.declared.term.AccessedBytes.{AccessedBytes}

-- all bytes of the packet that are there, from its base header on (RFC 791, section 3.1; RFC 8200, section 3)
abbrev pub bytes_of_packet : DissectedParts → List ℕ
bytes_of_packet p = p.base ++ bytes_of p.headers ++ p.payload

-- The headers lead to the protocol with the number n. ICMP is of IPv4 (RFC 792), ICMPv6 of IPv6 (RFC 4443, section 1).
abbrev pub leads_to_protocol : ℕ → DissectedParts → Bool
leads_to_protocol n p = if n == 1 then is_icmp p else if n == 58 then is_icmp6 p else p.number == n

-- the bytes from a header on: the base header of this version, or the header of this protocol, which no later fragment has
abbrev pub bytes_from : AccessedHeader → DissectedParts → List ℕ
bytes_from (from.Base v) p = if p.version == v then bytes_of_packet p else []
bytes_from (from.Transport n) p = if leads_to_protocol n p then transport_of p else []

-- The number at offset i of the bytes b, in network byte order, if all of it is there: of 8, 16 or 32 bits.

abbrev pub byte_at : ℕ → List ℕ → Option ℕ
byte_at i b = if nat_le (i + 1) (length b) then Some (slice_index b i) else None

abbrev pub short_at : ℕ → List ℕ → Option ℕ
short_at i b = if nat_le (i + 2) (length b) then Some (from_be_bytes w16 (slice_range b i (i + 2))) else None

abbrev pub long_at : ℕ → List ℕ → Option ℕ
long_at i b = if nat_le (i + 4) (length b) then Some (from_be_bytes w32 (slice_range b i (i + 4))) else None

-- the number of 1, 2 or 4 bytes at offset i of the bytes b; none of another size
abbrev pub number_at : ℕ → ℕ → List ℕ → Option ℕ
number_at i size b =
    if size == 1 then byte_at i b
    else if size == 2 then short_at i b
    else if size == 4 then long_at i b
    else None

-- what an access reads of the packet with the parts p
abbrev pub accessed : AccessedBytes → DissectedParts → Option ℕ
accessed a p = number_at a.offset a.size (bytes_from a.header p)
