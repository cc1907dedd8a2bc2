-- A packet whose extension headers are in the order that RFC 8200, section 4.1, recommends.
use Rattle.std.specs.Prelude.{ℕ, ◌+◌, ◌++◌, Bool, true, false, ◌==◌, ◌&&◌, ◌||◌, not, List, [], ◌∷◌, nat_lt, nat_le, Option, Some, None, if◌then◌else◌}
use Rattle.std.specs.List.{list_any}
use Rattle.std.specs.Option.{option_or}
use Rattle.ip_spec.specs.Numbers.{HOP_BY_HOP, ROUTING, FRAGMENT, AUTHENTICATION, DESTINATION_OPTIONS}
use Rattle.ip_spec.specs.Chain.{ExtHeader}
use Rattle.ip_dissect.specs.Fragment.{fragments}
use Rattle.ip_dissect.specs.Dissection.{DissectedParts}
use Rattle.ip_rewrite.specs.Rewritten.{room_fault}
use Rattle.ip_rewrite.specs.Without.{is_authentication, packet_fault, may_be_invalid}
use Rattle.ip_rewrite.specs.declared.which.Authentication.{Authentication}
use Rattle.ip_rewrite.specs.declared.err.RewriteError.{RewriteError}
use Rattle.ip_rewrite.specs.declared.err.RewriteError.TheVariants as err

-- a routing header
abbrev pub is_routing : ExtHeader → Bool
is_routing h = h.number == ROUTING

-- The rank in this order of a header of number n. Destination options that a routing header follows are for the nodes that
-- it lists: they have its rank, and so none passes a routing header.
abbrev pub rank_of : ℕ → Bool → ℕ
rank_of n routing_follows =
    if n == HOP_BY_HOP then 0
    else if (n == ROUTING) || (n == DESTINATION_OPTIONS) && routing_follows then 1
    else if n == FRAGMENT then 2
    else if n == AUTHENTICATION then 3
    else 4

-- of the header h, which the headers c follow
abbrev pub rank : ExtHeader → List ExtHeader → ℕ
rank h c = rank_of h.number (list_any is_routing c)

-- the headers of the rank k, one after another as before
abbrev pub of_rank : ℕ → List ExtHeader → List ExtHeader
of_rank k [] = []
of_rank k (h ∷ c) = if rank h c == k then h ∷ of_rank k c else of_rank k c

-- the headers by their ranks
abbrev pub in_order : List ExtHeader → List ExtHeader
in_order c = of_rank 0 c ++ of_rank 1 c ++ of_rank 2 c ++ of_rank 3 c ++ of_rank 4 c

-- the ranks of the headers after one of rank k never fall
abbrev pub rises_from : ℕ → List ExtHeader → Bool
rises_from k [] = true
rises_from k (h ∷ c) = nat_le k (rank h c) && rises_from (rank h c) c

-- the ranks never fall
abbrev pub is_in_order : List ExtHeader → Bool
is_in_order c = rises_from 0 c

-- the index that this order has for a header of number n among the headers c: that of the first one of a higher rank
abbrev pub recommended_index : ℕ → List ExtHeader → ℕ
recommended_index n [] = 0
recommended_index n (h ∷ c) = if nat_lt (rank_of n false) (rank h c) then 0 else recommended_index n c + 1

-- why the order can't change: the packet is a fragment; or an authentication header covers the whole packet (RFC 4302,
-- section 3.3.3)
abbrev pub order_fault : Authentication → DissectedParts → Option RewriteError
order_fault a p =
    if is_in_order p.headers then None
    else if list_any fragments p.headers then Some err.Fragmented
    else if list_any is_authentication p.headers && not (may_be_invalid a) then Some err.Authenticated
    else None

-- why the packet can't be written in this order into so many bytes
abbrev pub ordering_fault : Authentication → DissectedParts → ℕ → Option RewriteError
ordering_fault a p room = option_or (packet_fault p) (option_or (order_fault a p) (room_fault p (in_order p.headers) p.payload room))
