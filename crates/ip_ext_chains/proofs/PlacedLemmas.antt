-- Headers in their places.
use Rattle.ip_spec.proofs.Common.{◌≡◌, ℕ, List, Bool, rules, Option, Some, if◌then◌else◌, option_map, eqb-true, raw_fields, fragment_fields, auth_fields, ExtHeader, Place, number_in, header_in, next_place}
use Rattle.ip_spec.proofs.FirstLemmas.{find_passes}
use Rattle.ip_spec.proofs.PlaceLemmas.{is_of, side, next_alike}
use Rattle.ip_spec.proofs.WalkLemmas.{is_some-map}
use Rattle.ip_ext_slices.specs.Ipv6ExtensionSlice.{header_of}
use Rattle.ip_ext_chains.specs.Slots.{at, ArePlaced, value_at, AreOfNumber}
use Rattle.ip_ext_chains.specs.Ipv6Extensions.{value_of}
use Rattle.ip_ext_slices.specs.declared.ipv6_ext_slice.Ipv6ExtensionSlice.{Ipv6ExtensionSlice}
use Rattle.ip_ext_chains.specs.declared.places.Places.{Places}

pub mapped_if : {A B : Type 0} (f : A → B) (b : Bool) (x : A) (o : Option A) → option_map f (if b then Some x else o) ≡ (if b then Some (f x) else option_map f o)
mapped_if f b x o = search rules

pub in_place_number : (p : Place) (c : List ExtHeader) (h : ExtHeader) → header_in p c ≡ Some h → h.number ≡ number_in p
in_place_number p c h e = search (rules, find_passes (is_of p) (side p c) h, eqb-true)

-- the occupied places are those of the chain
module _ (c : List ExtHeader) (v : Places Ipv6ExtensionSlice) (k : ArePlaced c v) where
  pub next_same : (m : ℕ) → next_place (λ p. at p v) m ≡ next_place (λ p. header_in p c) m
  next_same m = next_alike (λ p. at p v) (λ p. header_in p c) m (λ p. cc (is_some-map header_of (at p v), k p))

  pub placed_numbers : AreOfNumber v
  placed_numbers p = search (rules, in_place_number p c, k p)

  -- the headers in the places are the value of the chain
  same_at : {A : Type 0} (f : ExtHeader → A) (p : Place) → option_map (λ h. f (header_of h)) (at p v) ≡ option_map f (header_in p c)
  same_at f p = rw (← k p) (search rules)

  pub value_placed : value_at v ≡ value_of c
  value_placed = simp (same_at (λ h. raw_fields h.bytes), same_at (λ h. fragment_fields h.bytes), same_at (λ h. auth_fields h.bytes))
