-- The fields that a value has, the headers that it reaches and its encoding, from a number.
use Rattle.ip_spec.proofs.Common.{◌≡◌, ℕ, List, [], ◌∷◌, ◌++◌, append_assoc, true, false, rules, Option, Some, None, is_some, ◌==◌, if◌then◌else◌, option_map, append-nil, IsHeader, IsLongestOf, ExtHeader, leads_to, is_empty, IsChain, FitsPlaces, Place, index, header_in, fields_of, IsCleared, PlacedFields, IsReachable}
use Rattle.std.specs.Prelude.{Result, Ok}
use Rattle.ip_base.specs.declared.ip_number_impl.IpNumber.{IpNumber}
use Rattle.ip_base.specs.declared.err.ipv6_exts.exts_walk_error.ExtsWalkError.{ExtsWalkError}
use Rattle.ip_spec.proofs.LongestOfLemmas.{Grows, one_longest_of}
use Rattle.ip_spec.proofs.StepLemmas.{all_first, all_next, chain_begins, chain_number, chain_header, chain_zero}
use Rattle.ip_spec.proofs.FitsLemmas.{fits_places}
use Rattle.ip_spec.proofs.PlaceLemmas.{place_of, has_routing, own_place, placed, none_there}
use Rattle.ip_spec.proofs.HeaderLemmas.{header_number}
use Rattle.ip_spec.proofs.EncodedLemmas.{one_header_says}
use Rattle.ip_spec.proofs.FirstLemmas.{counted}

abbrev pub WalkAnswer : Type 0
WalkAnswer = Result IpNumber ExtsWalkError

-- the result of a walk that leads to m
abbrev pub leads : ℕ → WalkAnswer
leads m = Ok (record { 0 = m })

pub none_if : {X : Type 0} (o : Option X) → is_some o ≡ false → o ≡ None
none_if o e = search rules

pub is_some-map : {A B : Type 0} (f : A → B) (o : Option A) → is_some (option_map f o) ≡ is_some o
is_some-map f o = search rules

-- the fields of v in the places that the chain c doesn't fill
abbrev pub unreached : PlacedFields → List ExtHeader → PlacedFields
unreached v c p = if is_some (header_in p c) then None else v p

-- One more header of a chain that fits: its place was free and is now occupied, and the others are unchanged.
pub record Joins (f : ℕ) (c : List ExtHeader) (x : ExtHeader) : Type 0 where
  pub place : Place
  pub at : place_of x.number (has_routing c) ≡ Some place
  pub free : header_in place c ≡ None
  pub joined : (p : Place) → header_in p (c ++ x ∷ []) ≡ (if index place == index p then Some x else header_in p c)

pub joins : (f : ℕ) (c : List ExtHeader) (x : ExtHeader) → IsChain f (c ++ x ∷ []) → FitsPlaces (c ++ x ∷ []) → Joins f c x
joins f c x k fits = search (rules, own_place x.number (has_routing c) (header_number x.number x.bytes (chain_header f c x k)), none_there, counted, placed)

module _ {f : ℕ} {c : List ExtHeader} {x : ExtHeader} (j : Joins f c x) where
  -- it is in its place
  pub there : header_in j.place (c ++ x ∷ []) ≡ Some x
  there = search rules

  -- the header in a place stays there
  pub kept : (p : Place) (h : ExtHeader) → header_in p c ≡ Some h → header_in p (c ++ x ∷ []) ≡ Some h
  kept p h e = search rules

module _ (v : PlacedFields) (f : ℕ) where
  -- The next header is in v, in the place of the number reached.
  pub record Next (c : List ExtHeader) (x : ExtHeader) : Type 0 where
    pub number : x.number ≡ leads_to f c
    pub header : IsHeader x.number x.bytes
    pub zero : x.number ≡ 0 → is_empty c ≡ true
    pub cleared : IsCleared x
    pub joins : Joins f c x
    pub said : v joins.place ≡ Some (fields_of x)

  pub next_shown : (c : List ExtHeader) (x : ExtHeader) → IsReachable v f (c ++ x ∷ []) → Next c x
  next_shown c x s =
      let j : Joins f c x = joins f c x s.chain s.fits in
      let said : v j.place ≡ Some (fields_of x) = s.in_value j.place x (there j) in
      search (rules, chain_number, chain_header, chain_zero, all_next)

  shown_before : (c : List ExtHeader) (x : ExtHeader) → IsReachable v f (c ++ x ∷ []) → IsReachable v f c
  shown_before c x s = search (rules, joins f c x s.chain s.fits, chain_begins, fits_places.begins, s.in_value, kept, all_first)

  shown_begins : (c d : List ExtHeader) → IsReachable v f (c ++ d) → IsReachable v f c
  shown_begins c [] s = rw append-nil at s
  shown_begins c (x ∷ d) s = shown_before c x (shown_begins (c ++ x ∷ []) d (rw append_assoc s))

  same_next : (c : List ExtHeader) (x y : ExtHeader) → Next c x → Next c y → x ≡ y
  same_next c x y a b = one_header_says x y (cc) a.header b.header a.cleared b.cleared (cc)

  pub shown_grows : Grows (IsReachable v f)
  shown_grows = record { begins = shown_begins; one_next = λ c x y p q. same_next c x y (next_shown c x p) (next_shown c y q) }

  pub one_reach : (c d : List ExtHeader) → IsLongestOf (IsReachable v f) c → IsLongestOf (IsReachable v f) d → c ≡ d
  one_reach c d = one_longest_of (IsReachable v f) shown_grows c d
