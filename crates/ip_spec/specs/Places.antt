-- The six places for the headers of an IPv6 chain (RFC 8200, section 4.1), and the fields in each.
use Rattle.std.specs.Prelude.{ℕ, List, [], ◌∷◌, ◌==◌, Option, Some, None, is_some, option_and_then, if◌then◌else◌}
use Rattle.std.specs.List.{find, before_first, after_first}
use Rattle.ip_spec.specs.Numbers.{HOP_BY_HOP, ROUTING, FRAGMENT, AUTHENTICATION, DESTINATION_OPTIONS}
use Rattle.ip_spec.specs.Fields.{RawFields, FragmentFields, AuthFields, raw_fields, fragment_fields, auth_fields}
use Rattle.ip_spec.specs.Chain.{ExtHeader}

pub data Place : Type 0 where
  hop_by_hop : Place
  destination : Place
  routing : Place
  fragment : Place
  authentication : Place
  final_destination : Place

-- all of them, in the order that RFC 8200 recommends
abbrev pub places : List Place
places = hop_by_hop ∷ destination ∷ routing ∷ fragment ∷ authentication ∷ final_destination ∷ []

-- its index among them
abbrev pub index : Place → ℕ
index hop_by_hop = 0
index destination = 1
index routing = 2
index fragment = 3
index authentication = 4
index final_destination = 5

-- the number of the headers of a place
abbrev pub number_in : Place → ℕ
number_in hop_by_hop = HOP_BY_HOP
number_in destination = DESTINATION_OPTIONS
number_in routing = ROUTING
number_in fragment = FRAGMENT
number_in authentication = AUTHENTICATION
number_in final_destination = DESTINATION_OPTIONS

-- The part of a list that contains what belongs in a place; `number` gives each element's number. For destination
-- options it is what comes before the first routing header, or all if there is none; for the final ones what comes
-- after it, or nothing; otherwise all.
abbrev pub side_of : {X : Type 0} → (X → ℕ) → Place → List X → List X
side_of number destination xs = before_first (λ x. number x == ROUTING) xs
side_of number final_destination xs = after_first (λ x. number x == ROUTING) xs
side_of number p xs = xs

-- the header of the chain c in a place
abbrev pub header_in : Place → List ExtHeader → Option ExtHeader
header_in p c = find (λ h. h.number == number_in p) (side_of (λ h. h.number) p c)

-- a header's fields
pub data HeaderFields : Type 0 where
  raw_header : RawFields → HeaderFields
  fragment_header : FragmentFields → HeaderFields
  auth_header : AuthFields → HeaderFields

abbrev pub fields_of : ExtHeader → HeaderFields
fields_of h =
    if h.number == FRAGMENT then fragment_header (fragment_fields h.bytes)
    else if h.number == AUTHENTICATION then auth_header (auth_fields h.bytes)
    else raw_header (raw_fields h.bytes)

-- The place that a header of number m takes next, if it is free, where the places contain v. Destination options take
-- the final one after a routing header.
abbrev pub next_place : {X : Type 0} → (Place → Option X) → ℕ → Option Place
next_place v m =
    option_and_then (λ p. if is_some (v p) then None else Some p)
    (find (λ p. number_in p == m) (if is_some (v routing) then final_destination ∷ places else places))
