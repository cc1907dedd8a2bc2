-- The encoding of a value of six places, the headers that it reaches from a number, and the result of a walk.
use Rattle.std.specs.Prelude.{◌≡◌, ℕ, List, ◌==◌, ◌&&◌, Option, Some, None, is_some, Result, Ok, Err, if◌then◌else◌}
use Rattle.std.specs.List.{find, AllByRecursion}
use Rattle.std.specs.Option.{option_map, option_map_or, ForSome}
use Rattle.ip_base.specs.declared.ip_number_impl.IpNumber.{IpNumber}
use Rattle.ip_base.specs.declared.err.ipv6_exts.exts_walk_error.ExtsWalkError.{ExtsWalkError}
use Rattle.ip_base.specs.declared.err.ipv6_exts.exts_walk_error.ExtsWalkError.TheVariants.{HopByHopNotAtStart, ExtNotReferenced}
use Rattle.ip_spec.specs.Numbers.{HOP_BY_HOP}
use Rattle.ip_spec.specs.LongestOf.{IsLongestOf}
use Rattle.ip_spec.specs.Chain.{ExtHeader, IsChain, leads_to}
use Rattle.ip_spec.specs.Fits.{FitsPlaces}
use Rattle.ip_spec.specs.Encoding.{IsCleared}
use Rattle.ip_spec.specs.Places.{Place, hop_by_hop, places, number_in, header_in, HeaderFields, fields_of}

-- a value: the fields of a header in each place, if there is one
abbrev pub PlacedFields : Type 0
PlacedFields = Place → Option HeaderFields

-- the value of the chain c is v: each place has the fields of its header there, and nothing else
abbrev pub IsValueOf : List ExtHeader → PlacedFields → Type 0
IsValueOf c v = (p : Place) → v p ≡ option_map fields_of (header_in p c)

-- The chain c from f is reachable in v: it fits the places, each of its headers has the fields that v has in that
-- header's place, and its reserved bits are zero.
pub record IsReachable (v : PlacedFields) (f : ℕ) (c : List ExtHeader) : Type 0 where
  pub chain : IsChain f c
  pub fits : FitsPlaces c
  pub in_value : (p : Place) → ForSome (header_in p c) (λ h. v p ≡ Some (fields_of h))
  pub cleared : AllByRecursion IsCleared c

-- The chain c from f encodes v: it is reachable in v, and v has nothing else.
pub record IsSpelling (v : PlacedFields) (f : ℕ) (c : List ExtHeader) : Type 0 where
  pub reachable : IsReachable v f c
  pub value : IsValueOf c v

-- The result if the headers reached lead to m and leave u, by the first check that holds: nothing is left; m is 0 and
-- hop-by-hop options are left; otherwise no header refers to the first one left, in the order of the places.
abbrev pub answer_at : ℕ → PlacedFields → Result IpNumber ExtsWalkError
answer_at m u =
    option_map_or (λ p. Err (if (m == HOP_BY_HOP) && is_some (u hop_by_hop) then HopByHopNotAtStart else ExtNotReferenced (record { 0 = number_in p })))
    (find (λ p. is_some (u p)) places) (Ok (record { 0 = m }))

-- a is the result of the walk over v from f: the headers that it reaches are the longest reachable chain, and it
-- leaves the fields of v in the places that this chain doesn't fill
pub record IsWalkAnswer (v : PlacedFields) (f : ℕ) (a : Result IpNumber ExtsWalkError) : Type 0 where
  pub reach : List ExtHeader
  pub is_reach : IsLongestOf (IsReachable v f) reach
  pub answer : a ≡ answer_at (leads_to f reach) (λ p. if is_some (header_in p reach) then None else v p)
