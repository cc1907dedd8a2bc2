-- A packet without some of its extension headers.
use Rattle.std.specs.Prelude.{ℕ, ◌+◌, Bool, true, false, ◌==◌, ◌&&◌, ◌||◌, not, List, [], ◌∷◌, slice_index, Option, Some, None, is_some, if◌then◌else◌}
use Rattle.std.specs.List.{list_any}
use Rattle.std.specs.Option.{option_or}
use Rattle.ip_spec.specs.Numbers.{ROUTING, FRAGMENT, AUTHENTICATION}
use Rattle.ip_spec.specs.Chain.{ExtHeader}
use Rattle.ip_dissect.specs.Fragment.{fragments}
use Rattle.ip_dissect.specs.End.{has_error}
use Rattle.ip_dissect.specs.Summary.{is_later_end}
use Rattle.ip_dissect.specs.Dissection.{DissectedParts}
use Rattle.ip_rewrite.specs.Rewritten.{rewritten, rewritten_len, rewritten_parts, jumbo_fault, room_fault}
use Rattle.ip_rewrite.specs.Selection.{selects, selects_first, kept, any_selected, selects_fragmented}
use Rattle.ip_rewrite.specs.declared.which.Which.{Which}
use Rattle.ip_rewrite.specs.declared.which.Authentication.{Authentication}
use Rattle.ip_rewrite.specs.declared.which.Authentication.TheVariants.{Valid, Invalid}
use Rattle.ip_rewrite.specs.declared.err.RewriteError.{RewriteError}
use Rattle.ip_rewrite.specs.declared.err.RewriteError.TheVariants as err

-- an authentication header
abbrev pub is_authentication : ExtHeader → Bool
is_authentication h = h.number == AUTHENTICATION

-- A routing header with segments left: the destination in the base header isn't the final one, which transport checksums
-- cover (RFC 8200, sections 4.4 and 8.1).
abbrev pub has_segments : ExtHeader → Bool
has_segments h = (h.number == ROUTING) && not (slice_index h.bytes 3 == 0)

-- why no packet can be made of this one, whatever is changed: its headers end with an error, bytes of it are missing, or it
-- is a later IPv4 fragment, in which no header precedes what is fragmented
abbrev pub packet_fault : DissectedParts → Option RewriteError
packet_fault p =
    if has_error p.end then Some err.Headers
    else if not (p.missing == 0) then Some err.Missing
    else if (p.version == 4) && is_later_end p.end then Some err.LaterFragment
    else None

-- An IPv4 packet is a fragment by its base header: its extension header is in the payload that is fragmented.
abbrev pub is_ipv4_fragment : DissectedParts → Bool
is_ipv4_fragment p = (p.version == 4) && is_some p.fragment

-- an authentication header may be kept whose check value doesn't hold for the changed packet
abbrev pub may_be_invalid : Authentication → Bool
may_be_invalid Valid = false
may_be_invalid Invalid = true

-- An authentication header is among the headers c of the packet, or follows them in the part that is fragmented: the fragment
-- header of a later fragment leads to the number that the first fragment has there (RFC 8200, section 4.5).
abbrev pub has_authentication : DissectedParts → List ExtHeader → Bool
has_authentication p c = list_any is_authentication c || is_later_end p.end && (p.number == AUTHENTICATION)

-- An authentication header covers the whole packet but for a fragment header before it: a packet is fragmented after its
-- check value was computed, and made whole before it is verified (RFC 4302, sections 3.3.4 and 3.4.1). `after` says that an
-- authentication header precedes h.
abbrev pub is_covered : Bool → ExtHeader → Bool
is_covered after h = after || not (h.number == FRAGMENT)

-- such a header is selected; `after` says that an authentication header precedes all of them
abbrev pub selects_covered : Which → ℕ → Bool → List ExtHeader → Bool
selects_covered w i after [] = false
selects_covered w i after (h ∷ c) = selects w i h && is_covered after h || selects_covered w (i + 1) (after || is_authentication h) c

-- why these headers can't be left out: none is selected; one is the fragment header of a fragment, or is fragmented; an
-- authentication header is kept, and covers one (RFC 4302, section 3.3.3); or the payload of an IPv4 packet would be read as
-- one
abbrev pub selection_fault : Which → Authentication → DissectedParts → Option RewriteError
selection_fault w a p =
    if not (any_selected (λ h. true) w 0 p.headers) then Some err.NoHeader
    else if any_selected fragments w 0 p.headers then Some err.FragmentHeader
    else if is_ipv4_fragment p || selects_fragmented w 0 false p.headers then Some err.Fragmented
    else if has_authentication p (kept w p.headers) && selects_covered w 0 false p.headers && not (may_be_invalid a) then Some err.Authenticated
    else if (p.version == 4) && (p.number == AUTHENTICATION) then Some err.HeaderFollows
    else None

-- the packet without these headers, its length and its parts
abbrev pub without : Which → DissectedParts → List ℕ
without w p = rewritten p (kept w p.headers) p.number p.payload

abbrev pub len_without : Which → DissectedParts → ℕ
len_without w p = rewritten_len p (kept w p.headers) p.payload

abbrev pub parts_without : Which → DissectedParts → DissectedParts
parts_without w p = rewritten_parts p (kept w p.headers) p.number p.payload

-- why the packet can't be written without these headers into so many bytes; the first header of a jumbogram states its length
abbrev pub without_fault : Which → Authentication → DissectedParts → ℕ → Option RewriteError
without_fault w a p room =
    option_or (packet_fault p) (option_or (selection_fault w a p)
    (option_or (jumbo_fault (selects_first w p.headers) p) (room_fault p (kept w p.headers) p.payload room)))

-- a transport checksum holds as before
abbrev pub keeps_checksums : Which → DissectedParts → Bool
keeps_checksums w p = not (any_selected has_segments w 0 p.headers)
