-- A packet with another payload after the same headers.
use Rattle.std.specs.Prelude.{ℕ, Bool, false, ◌&&◌, not, List, Option, Some, None, if◌then◌else◌}
use Rattle.std.specs.List.{list_any}
use Rattle.std.specs.Option.{option_map_or, option_or}
use Rattle.ip_dissect.specs.Fragment.{is_atomic}
use Rattle.ip_dissect.specs.Dissection.{DissectedParts}
use Rattle.ip_rewrite.specs.Rewritten.{is_read_on, room_fault}
use Rattle.ip_rewrite.specs.Without.{is_authentication, packet_fault, may_be_invalid}
use Rattle.ip_rewrite.specs.declared.which.Authentication.{Authentication}
use Rattle.ip_rewrite.specs.declared.err.RewriteError.{RewriteError}
use Rattle.ip_rewrite.specs.declared.err.RewriteError.TheVariants as err

-- the packet is a fragment, but not a whole packet with a fragment header (RFC 6946)
abbrev pub is_non_atomic : DissectedParts → Bool
is_non_atomic p = option_map_or (λ x. not (is_atomic x)) p.fragment false

-- why no other payload, whose number is m, can follow the headers: the packet is a fragment; an authentication header
-- covers the payload (RFC 4302, section 3.3.3); or the payload would be read as one more header
abbrev pub replacement_fault : Authentication → ℕ → DissectedParts → Option RewriteError
replacement_fault a m p =
    if is_non_atomic p then Some err.Fragmented
    else if list_any is_authentication p.headers && not (may_be_invalid a) then Some err.Authenticated
    else if is_read_on p.version p.headers m then Some err.HeaderFollows
    else None

-- why the packet can't be written with the payload q into so many bytes
abbrev pub payload_fault : Authentication → ℕ → List ℕ → DissectedParts → ℕ → Option RewriteError
payload_fault a m q p room = option_or (packet_fault p) (option_or (replacement_fault a m p) (room_fault p p.headers q room))
