-- A packet whose extension headers have their reserved bits set to zero.
use Rattle.std.specs.Prelude.{ℕ, Bool, false, ◌==◌, ◌&&◌, ◌||◌, not, List, [], ◌∷◌, slice_index, Option, Some, None, if◌then◌else◌}
use Rattle.std.specs.List.{list_any}
use Rattle.std.specs.Option.{option_or}
use Rattle.ip_spec.specs.Numbers.{FRAGMENT, AUTHENTICATION}
use Rattle.ip_spec.specs.Fields.{unreserved_bits}
use Rattle.ip_spec.specs.Encoding.{cleared_chain}
use Rattle.ip_spec.specs.Chain.{ExtHeader}
use Rattle.ip_dissect.specs.Fragment.{fragments}
use Rattle.ip_dissect.specs.Dissection.{DissectedParts}
use Rattle.ip_rewrite.specs.Rewritten.{room_fault}
use Rattle.ip_rewrite.specs.Without.{is_authentication, packet_fault, is_ipv4_fragment, may_be_invalid}
use Rattle.ip_rewrite.specs.declared.which.Authentication.{Authentication}
use Rattle.ip_rewrite.specs.declared.err.RewriteError.{RewriteError}
use Rattle.ip_rewrite.specs.declared.err.RewriteError.TheVariants as err

-- a reserved bit of the header is 1 (RFC 8200, section 4.5; RFC 4302, section 2.3)
abbrev pub has_reserved : ExtHeader → Bool
has_reserved h =
    if h.number == FRAGMENT then not (slice_index h.bytes 1 == 0) || not (unreserved_bits (slice_index h.bytes 3) == slice_index h.bytes 3)
    else if h.number == AUTHENTICATION then not (slice_index h.bytes 2 == 0) || not (slice_index h.bytes 3 == 0)
    else false

-- such a header follows one that fragments the payload; `after` says that one precedes all of them
abbrev pub reserved_fragmented : Bool → List ExtHeader → Bool
reserved_fragmented after [] = false
reserved_fragmented after (h ∷ c) = after && has_reserved h || reserved_fragmented (after || fragments h) c

-- such a header is an authentication header or follows one, which covers it; `after` says that one precedes all of them. A
-- fragment header before it isn't covered (RFC 4302, sections 3.3.4 and 3.4.1).
abbrev pub reserved_covered : Bool → List ExtHeader → Bool
reserved_covered after [] = false
reserved_covered after (h ∷ c) = (after || is_authentication h) && has_reserved h || reserved_covered (after || is_authentication h) c

-- why the reserved bits can't be cleared: one of them is in the part that is fragmented; or one is 1 and an authentication
-- header covers it
abbrev pub reserved_fault : Authentication → DissectedParts → Option RewriteError
reserved_fault a p =
    if is_ipv4_fragment p && list_any has_reserved p.headers || reserved_fragmented false p.headers then Some err.Fragmented
    else if reserved_covered false p.headers && not (may_be_invalid a) then Some err.Authenticated
    else None

-- why the packet can't be written with cleared reserved bits into so many bytes
abbrev pub clearing_fault : Authentication → DissectedParts → ℕ → Option RewriteError
clearing_fault a p room = option_or (packet_fault p) (option_or (reserved_fault a p) (room_fault p (cleared_chain p.headers) p.payload room))
