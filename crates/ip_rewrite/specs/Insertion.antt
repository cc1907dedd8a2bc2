-- A packet with one more extension header.
use Rattle.std.specs.Prelude.{ℕ, ◌+◌, ◌*◌, ◌++◌, Bool, false, ◌==◌, ◌&&◌, ◌||◌, not, List, ◌∷◌, length, take, drop, slice_index, nat_lt, Option, Some, None, if◌then◌else◌}
use Rattle.std.specs.List.{list_any}
use Rattle.std.specs.Option.{option_or}
use Rattle.ip_spec.specs.Numbers.{FRAGMENT, AUTHENTICATION}
use Rattle.ip_spec.specs.Chain.{ExtHeader, is_empty}
use Rattle.ip_dissect.specs.Fragment.{fragments, is_fragment_header}
use Rattle.ip_dissect.specs.Dissection.{DissectedParts}
use Rattle.ip_rewrite.specs.Headers.{is_options}
use Rattle.ip_rewrite.specs.Rewritten.{is_extension, jumbo_fault, room_fault}
use Rattle.ip_rewrite.specs.Without.{is_authentication, has_authentication, packet_fault, is_ipv4_fragment, may_be_invalid}
use Rattle.ip_rewrite.specs.declared.which.Authentication.{Authentication}
use Rattle.ip_rewrite.specs.declared.err.RewriteError.{RewriteError}
use Rattle.ip_rewrite.specs.declared.err.RewriteError.TheVariants as err

-- the headers c with h before the one with the index i, or after all i of them
abbrev pub inserted : ℕ → ExtHeader → List ExtHeader → List ExtHeader
inserted i h c = take i c ++ h ∷ drop i c

-- bytes b are exactly one header of number n (RFC 8200, section 4; RFC 4302, section 2.2)
abbrev pub is_header : ℕ → List ℕ → Bool
is_header n b =
    if nat_lt (length b) 8 then false
    else if n == FRAGMENT then length b == 8
    else if n == AUTHENTICATION then not (slice_index b 1 == 0) && (length b == 4 * (slice_index b 1 + 2))
    else is_extension n && (length b == 8 * (slice_index b 1 + 1))

-- The header can't be at the index i: there are fewer headers; hop-by-hop options would follow another header (RFC 8200,
-- section 4.1); or an IPv4 packet would have a second extension header.
abbrev pub is_misplaced : ℕ → ExtHeader → DissectedParts → Bool
is_misplaced i h p =
    nat_lt (length p.headers) i
    || (p.version == 4) && not (is_empty p.headers)
    || (if i == 0 then list_any is_options (take 1 p.headers) else is_options h)

-- why the header can't be inserted: it isn't one, or in IPv4 no authentication header; it would make the packet a fragment;
-- it can't be there; it would be in the part that is fragmented; or an authentication header covers the whole packet
abbrev pub header_fault : Authentication → ℕ → ExtHeader → DissectedParts → Option RewriteError
header_fault a i h p =
    if not (is_header h.number h.bytes) || (p.version == 4) && not (is_authentication h) then Some err.NotAHeader
    else if fragments h then Some err.FragmentHeader
    else if is_misplaced i h p then Some err.Misplaced
    else if is_ipv4_fragment p || list_any fragments (take i p.headers) then Some err.Fragmented
    else if has_authentication p p.headers && not (may_be_invalid a) then Some err.Authenticated
    else None

-- why the packet can't be written with the header into so many bytes; a jumbogram has no fragment header
abbrev pub insertion_fault : Authentication → ℕ → ExtHeader → DissectedParts → ℕ → Option RewriteError
insertion_fault a i h p room =
    option_or (packet_fault p) (option_or (header_fault a i h p)
    (option_or (jumbo_fault (is_fragment_header h) p) (room_fault p (inserted i h p.headers) p.payload room)))
