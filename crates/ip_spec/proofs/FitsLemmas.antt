-- Chains whose headers fit six places.
use Rattle.ip_spec.proofs.Common.{◌≡◌, ℕ, ◌≤◌, ◌<◌, List, [], ◌∷◌, ◌++◌, length, drop, map, refl, ap, sym, ◌∙◌, arith, ◌⊎◌, rules, ◌==◌, ◌↔◌, count_by, cases_lt, append-nil, length-append, common_steps, ExtHeader, leads_to, bytes_of, is_empty, IsPrefixChain, IsLongestChain, IsNext, IsEnd, IsDemand, IsLongestUnder, NextBreaks, Place, destination, routing, final_destination, places, side_of, number_in, Fits, FitsPlaces, IsOccupied, sum_by-append}
use Rattle.ip_spec.proofs.HeaderLemmas.{header_number, later_of}
use Rattle.ip_spec.specs.Places.{fragment}
use Rattle.ip_spec.proofs.FirstLemmas.{count_before, count_after, before-map, after-map}
use Rattle.ip_spec.proofs.PlaceLemmas.{place_of, has_routing, is_of, count_in, bare, sides, fits_next, none_there, breaks_occupied}
use Rattle.ip_spec.proofs.DemandKinds.{all_or}
use Rattle.ip_spec.proofs.UnderLemmas.{longest_ends_under, longest_keeps}
use Rattle.ip_spec.proofs.LongestOfLemmas.{begins_first}
use Rattle.ip_spec.proofs.StepLemmas.{next_of, chains_grow}
use Rattle.ip_spec.proofs.ChainLemmas.{longest_ends}

-- Headers after a chain add to the counts.
count_grows : (p : Place) (c d : List ExtHeader) → count_in p c ≤ count_in p (c ++ d)
count_grows p c d = search (rules, sides c d, sum_by-append)

-- whether each place has a property
each_or : (P : Place → Type 0) → ((p : Place) → P p ⊎ (P p → ⊥)) → ((p : Place) → P p) ⊎ (((p : Place) → P p) → ⊥)
each_or P test = grind (arith, common_steps, all_or P test places, fragment)

pub fits_places : IsDemand FitsPlaces
fits_places = record {
  empty = search rules;
  begins = λ c d f p. omega (arith, count_grows p c d, f p);
  decided = λ c. each_or (λ p. count_in p c ≤ 1) (λ p. search (rules, cases_lt 1 (count_in p c)));
}

-- The headers after a prefix of a chain that fits, fit by themselves, and so does each single header.
pub fits_after : (c d : List ExtHeader) → FitsPlaces (c ++ d) → FitsPlaces d
fits_after c d f destination =
    search (rules, sides c d, f destination, f final_destination, sum_by-append, count_before (is_of destination) (is_of routing) d)
fits_after c d f final_destination =
    search (rules, sides c d, f final_destination, sum_by-append, count_after (is_of destination) (is_of routing) d)
fits_after c d f p = omega (arith, f p, sum_by-append)

-- a header's number decides whether it fits
pub number_fits : (c : List ExtHeader) (g h : ExtHeader) → g.number ≡ h.number → FitsPlaces (c ++ g ∷ []) → FitsPlaces (c ++ h ∷ [])
number_fits c g h e f = fits_next c h (fits_places.begins c (g ∷ []) f) (λ p o. none_there c g p (ap (λ m. place_of m (has_routing c)) e ∙ o) f)

-- If a header follows and doesn't fit, the place of its number is occupied.
next_breaks : (c : List ExtHeader) (m : ℕ) (r : List ℕ) (h : ExtHeader) → FitsPlaces c → IsNext (is_empty c) m r h → (FitsPlaces (c ++ h ∷ []) → ⊥) → IsOccupied m c
next_breaks c m r h fits x breaks =
    breaks_occupied c m fits (later_of m (header_number m h.bytes x.header) (λ z. breaks (search rules)))
    (λ f. breaks (number_fits c (bare m) h (sym x.number) f))

-- At the end of the longest chain that fits, no header follows, unless the place of its number is occupied.
pub fitting_ends : (n : ℕ) (s : List ℕ) (c : List ExtHeader) → IsLongestUnder FitsPlaces n s c → (IsOccupied (leads_to n c) c → ⊥) → IsEnd (is_empty c) (leads_to n c) (drop (length (bytes_of c)) s)
fitting_ends n s c l free h x = search (rules, free, next_breaks, longest_ends_under, fits_places)

-- after the prefix of a chain that fits, the place of the number is occupied
pub next_occupied : (n : ℕ) (s : List ℕ) (p rest : List ExtHeader) → IsPrefixChain n s (p ++ rest) → FitsPlaces p → NextBreaks FitsPlaces p rest → (rest ≡ [] → IsOccupied (leads_to n p) p) → IsOccupied (leads_to n p) p
next_occupied n s p [] q fits breaks on = on refl
next_occupied n s p (h ∷ rest) q fits breaks on =
    next_breaks p (leads_to n p) (drop (length (bytes_of p)) s) h fits (next_of n s p h (begins_first (IsPrefixChain n s) (chains_grow n s) p h rest q)) breaks

-- The numbers of elements decide whether they fit.
module _ {X Y : Type 0} (f : X → Y) (number : Y → ℕ) where
  pub side-map : (p : Place) (xs : List X) → side_of number p (map f xs) ≡ map f (side_of (λ x. number (f x)) p xs)
  side-map destination xs = sym (before-map f (λ y. number y == 43) xs)
  side-map final_destination xs = sym (after-map f (λ y. number y == 43) xs)
  side-map p xs = refl

  count-side : (p : Place) (xs : List X) → count_by (λ y. number y == number_in p) (side_of number p (map f xs)) ≡ count_by (λ x. number (f x) == number_in p) (side_of (λ x. number (f x)) p xs)
  count-side p xs = grind (arith, common_steps, side-map)

  pub fits-map : (xs : List X) → Fits number (map f xs) ↔ Fits (λ x. number (f x)) xs
  fits-map xs = search (rules, count-side)

-- It is shorter than the longest chain if and only if a header follows whose place is occupied.
module _ (n : ℕ) (s : List ℕ) (d c : List ExtHeader) (l : IsLongestChain n s d) (u : IsLongestUnder FitsPlaces n s c) where
  pub occupied_where_shorter : length c < length d → IsOccupied (leads_to n c) c
  occupied_where_shorter w =
      let k = longest_keeps FitsPlaces fits_places n s d c l u in
      next_occupied n s c k.rest (search rules) k.meets k.breaks (search (rules, append-nil))

  pub shorter_where_next : (h : ExtHeader) → IsNext (is_empty c) (leads_to n c) (drop (length (bytes_of c)) s) h → length c < length d
  shorter_where_next h x = grind (arith, longest_keeps, fits_places, longest_ends, append-nil, length-append)
