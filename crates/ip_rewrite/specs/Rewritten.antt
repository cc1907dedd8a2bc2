-- A packet with other extension headers or another payload, and nothing else changed.
use Rattle.std.specs.Prelude.{ℕ, ◌+◌, ◌++◌, Bool, ◌==◌, ◌&&◌, ◌||◌, not, List, [], length, nat_lt, Option, Some, None, if◌then◌else◌}
use Rattle.std.specs.Option.{option_or}
use Rattle.ip_spec.specs.Numbers.{HOP_BY_HOP, ROUTING, FRAGMENT, AUTHENTICATION, DESTINATION_OPTIONS}
use Rattle.ip_spec.specs.Chain.{ExtHeader, bytes_of, is_empty}
use Rattle.ip_dissect.specs.Extent.{ipv4_stated, ipv6_stated}
use Rattle.ip_dissect.specs.Fragment.{ipv6_fragment}
use Rattle.ip_dissect.specs.Dissection.{DissectedParts}
use Rattle.ip_rewrite.specs.Headers.{number_of_first, linked_headers}
use Rattle.ip_rewrite.specs.Base.{length_field, base_stating, base_before}
use Rattle.ip_rewrite.specs.Jumbogram.{following_len, is_unstated, jumbo_offset, is_jumbogram, stating_at}
use Rattle.ip_rewrite.specs.declared.err.RewriteError.{RewriteError}
use Rattle.ip_rewrite.specs.declared.err.RewriteError.TheVariants.{NoLength, NotAJumbogram, TooLong, NoRoom}

-- the base header of the packet with the parts p if the headers c follow it, and then the bytes q, which start with the
-- number m
abbrev pub base_for : DissectedParts → List ExtHeader → ℕ → List ℕ → List ℕ
base_for p c m q = base_before p.version (is_unstated p) p.base (number_of_first c m) (length (bytes_of c) + length q)

-- that packet
abbrev pub joined : DissectedParts → List ExtHeader → ℕ → List ℕ → List ℕ
joined p c m q = base_for p c m q ++ bytes_of (linked_headers m c) ++ q

-- and its parts: without padding, and with the fragment that its headers then say it is
abbrev pub joined_parts : DissectedParts → List ExtHeader → ℕ → List ℕ → DissectedParts
joined_parts p c m q = record p {
  base = base_for p c m q;
  stated = if p.version == 4 then ipv4_stated (base_for p c m q) else ipv6_stated (base_for p c m q);
  headers = linked_headers m c;
  number = m;
  payload = q;
  fragment = if p.version == 4 then p.fragment else ipv6_fragment (linked_headers m c);
  padding = [];
}

-- the headers c, with the length of c and q in the option in which a jumbogram states it (RFC 2675, section 2)
abbrev pub stating : DissectedParts → List ExtHeader → List ℕ → List ExtHeader
stating p c q = stating_at (jumbo_offset p) (length (bytes_of c) + length q) c

-- the packet with the headers c and the bytes q, whose length is stated, and its parts
abbrev pub rewritten : DissectedParts → List ExtHeader → ℕ → List ℕ → List ℕ
rewritten p c m q = joined p (stating p c q) m q

abbrev pub rewritten_parts : DissectedParts → List ExtHeader → ℕ → List ℕ → DissectedParts
rewritten_parts p c m q = joined_parts p (stating p c q) m q

-- its length in bytes, and what its length field states
abbrev pub rewritten_len : DissectedParts → List ExtHeader → List ℕ → ℕ
rewritten_len p c q = length p.base + length (bytes_of c) + length q

abbrev pub rewritten_field : DissectedParts → List ExtHeader → List ℕ → ℕ
rewritten_field p c q = length_field p.version (is_unstated p) p.base (length (bytes_of c) + length q)

-- the packet as it is, without padding, with its length and IPv4's checksum stated anew
abbrev pub restated : DissectedParts → List ℕ
restated p = base_stating p.version p.base (rewritten_field p p.headers p.payload) ++ bytes_of p.headers ++ p.payload

-- Why the packet, whose length field is 0, can't have n bytes after its base header. The length of a jumbogram is more than
-- 65,535, and has 32 bits (RFC 2675, sections 2 and 3). Of another packet it isn't known whether all bytes belong to it.
abbrev pub unstated_fault : DissectedParts → ℕ → Option RewriteError
unstated_fault p n =
    if not (is_jumbogram p) then (if n == following_len p then None else Some NoLength)
    else if not (nat_lt 0xffff n) then Some NotAJumbogram
    else if not (nat_lt n 0x1_0000_0000) then Some TooLong
    else None

-- why it can't be written into so many bytes: its length isn't stated and changes, its length field has 16 bits, or it is
-- longer
abbrev pub room_fault : DissectedParts → List ExtHeader → List ℕ → ℕ → Option RewriteError
room_fault p c q room =
    option_or (if is_unstated p then unstated_fault p (length (bytes_of c) + length q) else None)
    (if nat_lt 65535 (rewritten_field p c q) then Some TooLong
    else if nat_lt room (rewritten_len p c q) then Some NoRoom
    else None)

-- why a change can't be made after which a jumbogram would be none
abbrev pub jumbo_fault : Bool → DissectedParts → Option RewriteError
jumbo_fault ends p = if ends && is_jumbogram p then Some NotAJumbogram else None

-- the number of an extension header
abbrev pub is_extension : ℕ → Bool
is_extension n = (n == HOP_BY_HOP) || (n == ROUTING) || (n == FRAGMENT) || (n == AUTHENTICATION) || (n == DESTINATION_OPTIONS)

-- In a packet of version v, bytes that start with the number m would be read as one more header after the headers c: in
-- IPv4 only an authentication header is one, and none follows it.
abbrev pub is_read_on : ℕ → List ExtHeader → ℕ → Bool
is_read_on v c m = if v == 4 then is_empty c && (m == AUTHENTICATION) else is_extension m
