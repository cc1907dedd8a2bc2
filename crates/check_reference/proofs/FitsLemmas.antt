-- The counts of the plain program.
use Rattle.ip_spec.proofs.Common.{◌≡◌, rules, ℕ, ◌+◌, ◌<◌, ◌≤◌, List, length, take, map, arith, take-map, take_more, length-map, ExtHeader, count_by, ◌==◌, ◌↔◌, KeepsBeginning, Place, hop_by_hop, destination, routing, authentication, final_destination, number_in, side_of, FitsPlaces}
use Rattle.ip_spec.specs.Places.{fragment}
use Rattle.ip_spec.proofs.FitsLemmas.{fits-map}
use Rattle.ip_spec.proofs.DemandLemmas.{kept_first}
use Rattle.ip_spec.proofs.PlaceLemmas.{bare}
use Rattle.check_reference.specs.PlainHeader.{plain_header_of}
use Rattle.check_reference.specs.declared.chain.PlainHeader.{PlainHeader}

-- If the first k plain headers fit and one more doesn't, the demand keeps these k.
module _ (hs : List PlainHeader) (k : ℕ) (within : k < length hs) where
  pub kept_of_plain : FitsPlaces (map plain_header_of (take k hs)) → (FitsPlaces (map plain_header_of (take (k + 1) hs)) → ⊥) → KeepsBeginning FitsPlaces (map plain_header_of hs) (map plain_header_of (take k hs))
  kept_of_plain f fails =
      let d = map plain_header_of hs in
      let inside : k < length d = omega (arith, within, length-map hs plain_header_of) in
      let same : (j : ℕ) → take j d ≡ map plain_header_of (take j hs) = λ j. take-map plain_header_of j hs in
      rw (same k) at (kept_first FitsPlaces d k (bare 0) inside (rw (same k) f) (λ g. fails (rw (← same (k + 1), take_more d k (bare 0) inside) g)))

-- The counts of the numbers in each place.
module _ (hs : List PlainHeader) where
  abbrev often_in : Place → ℕ
  often_in p = count_by (λ h. h.number == number_in p) (side_of (λ h. h.number) p hs)

  pub record AllOnce : Type 0 where
    pub hop_by_hop_options : often_in hop_by_hop ≤ 1
    pub routing_header : often_in routing ≤ 1
    pub fragment_header : often_in fragment ≤ 1
    pub auth_header : often_in authentication ≤ 1
    pub destination_options : often_in destination ≤ 1
    pub final_options : often_in final_destination ≤ 1

  once_in : AllOnce → (p : Place) → often_in p ≤ 1
  once_in once p = search rules

  pub told_by_counts : {A : Type 0} → A ↔ AllOnce → A ↔ FitsPlaces (map plain_header_of hs)
  told_by_counts k =
      let same = fits-map plain_header_of (λ (h : ExtHeader). h.number) hs in
      ((λ a. same.1 (once_in (k.0 a))), (λ fits. let at : (p : Place) → often_in p ≤ 1 = same.0 fits in k.1 (search (rules, at))))
