-- Any number of changes of a packet's extension headers at once: some are left out, then the reserved bits of the others are
-- cleared, then these are put in order.
use Rattle.std.specs.Prelude.{ℕ, Bool, true, false, ◌&&◌, ◌||◌, not, List, Option, None, if◌then◌else◌}
use Rattle.std.specs.List.{list_any}
use Rattle.std.specs.Option.{option_or}
use Rattle.ip_spec.specs.Encoding.{cleared_chain}
use Rattle.ip_spec.specs.Chain.{ExtHeader}
use Rattle.ip_dissect.specs.Dissection.{DissectedParts}
use Rattle.ip_rewrite.specs.Rewritten.{rewritten, rewritten_len, rewritten_parts, jumbo_fault, room_fault}
use Rattle.ip_rewrite.specs.Selection.{selects_first, kept, any_selected}
use Rattle.ip_rewrite.specs.Without.{packet_fault, selection_fault}
use Rattle.ip_rewrite.specs.Clearing.{has_reserved, reserved_fault}
use Rattle.ip_rewrite.specs.Order.{in_order, is_in_order, order_fault}
use Rattle.ip_rewrite.specs.declared.request.Request.{Request}
use Rattle.ip_rewrite.specs.declared.which.Which.{Which}
use Rattle.ip_rewrite.specs.declared.which.Which.TheVariants.{Headers}
use Rattle.ip_rewrite.specs.declared.which.Authentication.{Authentication}
use Rattle.ip_rewrite.specs.declared.err.RewriteError.{RewriteError}

-- the headers c, with their reserved bits cleared if `clears`
abbrev pub cleared_if : Bool → List ExtHeader → List ExtHeader
cleared_if clears c = if clears then cleared_chain c else c

-- in the recommended order if `orders`
abbrev pub ordered_if : Bool → List ExtHeader → List ExtHeader
ordered_if orders c = if orders then in_order c else c

-- what the request makes of the headers c
abbrev pub changed_headers : Request → List ExtHeader → List ExtHeader
changed_headers r c = ordered_if r.orders (cleared_if r.clears (kept r.without c))

-- The request changes some of the headers c: one is left out, one that is kept has a reserved bit that is to be cleared, or
-- those that are kept are to be put in order.
abbrev pub concerns : Request → List ExtHeader → Bool
concerns r c =
    any_selected (λ h. true) r.without 0 c
    || r.clears && list_any has_reserved (kept r.without c)
    || r.orders && not (is_in_order (kept r.without c))

-- the packet as it is asked once headers were left out
abbrev pub with_kept : Request → DissectedParts → DissectedParts
with_kept r p = record p { headers = kept r.without p.headers }

-- why headers can't be left out, if there are any that are to be
abbrev pub leaving_fault : Request → DissectedParts → Option RewriteError
leaving_fault r p =
    if any_selected (λ h. true) r.without 0 p.headers
    then option_or (selection_fault r.without r.authentication p) (jumbo_fault (selects_first r.without p.headers) p)
    else None

-- why the reserved bits of the others can't be cleared, and why these can't be put in order, if they are to be
abbrev pub clearing_step_fault : Request → DissectedParts → Option RewriteError
clearing_step_fault r p = if r.clears then reserved_fault r.authentication (with_kept r p) else None

abbrev pub ordering_step_fault : Request → DissectedParts → Option RewriteError
ordering_step_fault r p = if r.orders then order_fault r.authentication (with_kept r p) else None

-- why the packet can't be written with these changes into so many bytes: the first error of the first step
abbrev pub change_fault : Request → DissectedParts → ℕ → Option RewriteError
change_fault r p room =
    option_or (packet_fault p) (option_or (leaving_fault r p) (option_or (clearing_step_fault r p) (option_or (ordering_step_fault r p)
    (room_fault p (changed_headers r p.headers) p.payload room))))

-- a packet that the request doesn't concern has no error
abbrev pub request_fault : Request → DissectedParts → ℕ → Option RewriteError
request_fault r p room = if concerns r p.headers then change_fault r p room else None

-- the packet with these changes
abbrev pub requested : Request → DissectedParts → List ℕ
requested r p = rewritten p (changed_headers r p.headers) p.number p.payload

-- its length in bytes
abbrev pub requested_len : Request → DissectedParts → ℕ
requested_len r p = rewritten_len p (changed_headers r p.headers) p.payload

-- and its parts
abbrev pub requested_parts : Request → DissectedParts → DissectedParts
requested_parts r p = rewritten_parts p (changed_headers r p.headers) p.number p.payload

-- the request that leaves headers out and changes nothing else
abbrev pub leaving : Which → Authentication → Request
leaving w a = record { without = w; clears = false; orders = false; authentication = a }

-- no header
abbrev pub no_headers : Which
no_headers = Headers (record { hop_by_hop = false; routing = false; fragment = false; authentication = false; destination_options = false })

-- the request that clears reserved bits, and the one that puts the headers in order
abbrev pub clearing : Authentication → Request
clearing a = record { without = no_headers; clears = true; orders = false; authentication = a }

abbrev pub ordering : Authentication → Request
ordering a = record { without = no_headers; clears = false; orders = true; authentication = a }
