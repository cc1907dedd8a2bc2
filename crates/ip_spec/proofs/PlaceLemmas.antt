-- The places of a chain's headers, the place of the next header, and the numbers whose place is occupied.
use Rattle.ip_spec.proofs.Common.{◌≡◌, ℕ, ◌+◌, List, [], ◌∷◌, ◌++◌, refl, ap, sym, ◌∙◌, arith, inl, inr, Bool, true, false, rules, ◌==◌, ◌↔◌, count_by, Option, Some, None, is_some, IsSome, if◌then◌else◌, find, find-append, option_or, cases_Bool, eqb-true, eq-eqb, eqb_tells, same_Some, append-nil, common_steps, IsExtensionNumber, IsLaterNumber, ExtHeader, Place, hop_by_hop, destination, routing, authentication, final_destination, places, index, number_in, side_of, header_in, next_place, FitsPlaces, IsOccupied, sum_by-append}
use Rattle.ip_spec.proofs.HeaderLemmas.{later_extension}
use Rattle.ip_spec.specs.Places.{fragment}
use Rattle.ip_spec.proofs.FirstLemmas.{before-no, before-none, before-some, after-none, after-some, after_one, counted, none_counted}

-- the place of a header of number m, free or not, after a routing header or not
abbrev pub place_of : ℕ → Bool → Option Place
place_of m after = find (λ p. number_in p == m) (if after then final_destination ∷ places else places)

-- a number belongs to its place
pub place_number : (m : ℕ) (p : Place) (after : Bool) → place_of m after ≡ Some p → m ≡ number_in p
place_number m p after e = search rules

-- of the two places of 60, the final one is after a routing header
pub final_after : (after : Bool) → place_of 60 after ≡ Some final_destination → after ≡ true
final_after after e = search rules

pub destination_before : (after : Bool) → place_of 60 after ≡ Some destination → after ≡ false
destination_before after e = search rules

-- the place of a number that has only one
pub in_both : (m : ℕ) (p : Place) → place_of m true ≡ Some p → place_of m false ≡ Some p → (after : Bool) → place_of m after ≡ Some p
in_both m p after before x4 = search rules

-- an extension number has a place
pub own_place : (m : ℕ) (after : Bool) → IsExtensionNumber m → (p : Place) × (place_of m after ≡ Some p)
own_place m after x = search (rules, cases_Bool after)

-- a routing header is present
abbrev pub has_routing : List ExtHeader → Bool
has_routing c = is_some (header_in routing c)

-- a header's number is that of a place; and how many of a chain belong to it
abbrev pub is_of : Place → ExtHeader → Bool
is_of p h = h.number == number_in p

abbrev pub side : Place → List ExtHeader → List ExtHeader
side = side_of (λ h. h.number)

abbrev pub count_in : Place → List ExtHeader → ℕ
count_in p c = count_by (is_of p) (side p c)

-- The headers after c are on one side of the first routing header.
pub data Sides (c d : List ExtHeader) : Type 0 where
  none_yet : has_routing c ≡ false → side destination c ≡ c → side final_destination c ≡ []
      → side destination (c ++ d) ≡ c ++ side destination d → side final_destination (c ++ d) ≡ side final_destination d → Sides c d
  one_before : has_routing c ≡ true
      → side destination (c ++ d) ≡ side destination c → side final_destination (c ++ d) ≡ side final_destination c ++ d → Sides c d

pub sides : (c d : List ExtHeader) → Sides c d
sides c d = search (rules, cases_Bool (has_routing c), append-nil c, counted, before-some, after-some, none_counted, before-none, after-none)

pub none_after : (c : List ExtHeader) → has_routing c ≡ false → header_in final_destination c ≡ None
none_after c none = grind (arith, common_steps, sides c [])

-- One more header h after c belongs to at most one place, and the other places are unchanged.
module _ (c : List ExtHeader) (h : ExtHeader) where
  pub data Comes (p : Place) : Type 0 where
    here : place_of h.number (has_routing c) ≡ Some p
        → header_in p (c ++ h ∷ []) ≡ option_or (header_in p c) (Some h) → count_in p (c ++ h ∷ []) ≡ count_in p c + 1 → Comes p
    elsewhere : (place_of h.number (has_routing c) ≡ Some p → ⊥)
        → header_in p (c ++ h ∷ []) ≡ header_in p c → count_in p (c ++ h ∷ []) ≡ count_in p c → Comes p

  of_number : {m : ℕ} → h.number ≡ m → place_of h.number (has_routing c) ≡ place_of m (has_routing c)
  of_number e = ap (λ m. place_of m (has_routing c)) e

  by_number : (p : Place) → side p (c ++ h ∷ []) ≡ side p c ++ h ∷ [] → (h.number ≡ number_in p → place_of h.number (has_routing c) ≡ Some p) → Comes p
  by_number p s own = search (rules, eqb_tells, find-append, sum_by-append, place_number)

  same_side : (p : Place) → side p (c ++ h ∷ []) ≡ side p c → (place_of h.number (has_routing c) ≡ Some p → ⊥) → Comes p
  same_side p s other = elsewhere other (ap (find (is_of p)) s) (ap (count_by (is_of p)) s)

  by_side : (p : Place) → side p (c ++ h ∷ []) ≡ side p c → (place_of (number_in p) (has_routing c) ≡ Some p → ⊥) → Comes p
  by_side p s other = same_side p s (λ e. other (sym (of_number (place_number h.number p (has_routing c) e)) ∙ e))

  pub comes : (p : Place) → Comes p
  comes destination = elim (sides c (h ∷ [])) [
    | one_before some b a ↦ by_side destination b (λ e. absurd (cc (destination_before (has_routing c) e)))
    | none_yet none all nothing b a ↦ elim (cases_Bool (is_of routing h)) [
      | inl is ↦ same_side destination (cc (append-nil c))
          (λ e. omega (arith, eqb-true h.number 43 is, place_number h.number destination (has_routing c) e))
      | inr other ↦ by_number destination (cc (before-no (is_of routing) h [] other)) (λ e. of_number e ∙ ap (place_of 60) none)
    ]
  ]
  comes final_destination = elim (sides c (h ∷ [])) [
    | one_before some b a ↦ by_number final_destination a (λ e. of_number e ∙ ap (place_of 60) some)
    | none_yet none all nothing b a ↦ by_side final_destination (cc (after_one (is_of routing) h)) (λ e. cc)
  ]
  comes hop_by_hop = by_number hop_by_hop refl (search (rules, in_both))
  comes routing = by_number routing refl (search (rules, in_both))
  comes fragment = by_number fragment refl (search (rules, in_both))
  comes authentication = by_number authentication refl (search (rules, in_both))

  pub placed : (q : Place) → place_of h.number (has_routing c) ≡ Some q → header_in q c ≡ None → (p : Place) → header_in p (c ++ h ∷ []) ≡ (if index q == index p then Some h else header_in p c)
  placed q e free p = search (rules, comes, same_Some, eq-eqb, eqb_tells)

  -- It fits if and only if its place is free.
  pub fits_next : FitsPlaces c → ((p : Place) → place_of h.number (has_routing c) ≡ Some p → count_in p c ≡ 0) → FitsPlaces (c ++ h ∷ [])
  fits_next f free p = elim (comes p) [ here e k n ↦ omega (arith, n, free p e) | elsewhere other k n ↦ omega (arith, n, f p) ]

  pub none_there : (p : Place) → place_of h.number (has_routing c) ≡ Some p → FitsPlaces (c ++ h ∷ []) → count_in p c ≡ 0
  none_there p e f = elim (comes p) [ here e' k n ↦ omega (arith, n, f p) | elsewhere other k n ↦ absurd (other e) ]

  pub fits_more : (p : Place) → FitsPlaces c → place_of h.number (has_routing c) ≡ Some p → is_some (header_in p c) ≡ false → FitsPlaces (c ++ h ∷ [])
  fits_more p f e free = fits_next f (λ q o. ap (λ r. count_in r c) (same_Some q p (sym o ∙ e)) ∙ none_counted (is_of p) (side p c) free)

-- a header of number m, with no bytes
abbrev pub bare : ℕ → ExtHeader
bare m = record { number = m; bytes = [] }

-- The next place of a number m, where the places contain v, is its own, if that is free.
module _ {X : Type 0} (v : Place → Option X) (m : ℕ) where
  abbrev own : Option Place
  own = place_of m (is_some (v routing))

  pub own_next : (p : Place) → next_place v m ≡ Some p → (own ≡ Some p) × (is_some (v p) ≡ false)
  own_next p e = search rules

  pub next_own : (p : Place) → own ≡ Some p → is_some (v p) ≡ false → next_place v m ≡ Some p
  next_own p e free = cc

-- Where the same places are occupied, the same is next.
module _ {X Y : Type 0} (v : Place → Option X) (w : Place → Option Y) (m : ℕ) (same : (p : Place) → is_some (v p) ≡ is_some (w p)) where
  pub next_alike : next_place v m ≡ next_place w m
  next_alike = grind (arith, common_steps, same)

-- A number is occupied after a chain that fits if and only if no header of that number fits after it.
module _ (c : List ExtHeader) (m : ℕ) where
  pub occupied_breaks : IsOccupied m c → (h : ExtHeader) → h.number ≡ m → FitsPlaces (c ++ h ∷ []) → ⊥
  occupied_breaks t h e f = search (rules, own_place m (has_routing c) (later_extension m t.0), none_there, counted)

  pub breaks_occupied : FitsPlaces c → IsLaterNumber m → (FitsPlaces (c ++ bare m ∷ []) → ⊥) → IsOccupied m c
  breaks_occupied fits later breaks = search (rules, own_place m (has_routing c) (later_extension m later), fits_more)

-- One more extension header fits if and only if its number has a next place.
module _ (c : List ExtHeader) (h : ExtHeader) (fits : FitsPlaces c) (is : IsExtensionNumber h.number) where
  pub fits_where_next : FitsPlaces (c ++ h ∷ []) ↔ IsSome (next_place (λ p. header_in p c) h.number)
  fits_where_next = search (rules, own_place h.number (has_routing c) is, none_there, counted, fits_more)
