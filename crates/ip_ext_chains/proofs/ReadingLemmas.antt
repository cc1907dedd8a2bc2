-- A chain that is read, header by header, into six places.
use Rattle.std.specs.Option.{is_none}
use Rattle.std.specs.List.{filter}
use Rattle.ip_spec.proofs.Common.{length, places, ◌≡◌, ◌≢◌, ℕ, ◌<◌, List, ◌∷◌, ◌++◌, inl, inr, Bool, true, false, rules, [], ◌==◌, Some, None, is_some, if◌then◌else◌, ne_eqb, IsHeader, ExtHeader, IsChain, leads_to, bytes_of, is_empty, FitsPlaces, Place, routing, final_destination, index, number_in, header_in, next_place, next_in_chain, IsOccupied, fields_of}
use Rattle.ip_spec.proofs.StepLemmas.{chain_more}
use Rattle.ip_spec.proofs.ChainLemmas.{leads_to-more}
use Rattle.ip_ext_chains.proofs.FittingLemmas.{occupied_answers, other_answers}
use Rattle.ip_spec.proofs.WalkLemmas.{none_if, is_some-map}
use Rattle.ip_spec.proofs.WalkStepLemmas.{not_empty}
use Rattle.ip_spec.proofs.HeaderLemmas.{later_of, later_or}
use Rattle.ip_spec.proofs.PlaceLemmas.{place_of, has_routing, place_number, final_after, placed, fits_more, own_next, next_alike}
use Rattle.ip_ext_chains.specs.Fitting.{IsFittingAnswer}
use Rattle.ip_ext_chains.specs.Ipv6Extensions.{value_of, placed_fields}
use Rattle.ip_ext_chains.specs.ChainReading.{with_header, IsReadInto}
use Rattle.ip_ext_chains.specs.Slots.{at, IsVacant, IsPut}
use Rattle.ip_ext_chains.specs.declared.places.Places.{Places}
use Rattle.ip_ext_chains.specs.declared.ipv6_exts.Ipv6Extensions.{Ipv6Extensions}
use Rattle.ip_ext_chains.proofs.PlacedLemmas.{mapped_if}
use Rattle.ip_ext_chains.proofs.PlacedFieldsLemmas.{placed_fields-value_of, placed_fields_one}

-- The chain c from n was read, fits, leads to m and has the value v; `first` says that it has no header.
pub record IsReading (n : ℕ) (c : List ExtHeader) (m : ℕ) (v : Ipv6Extensions) (first : Bool) : Type 0 where
  pub chain : IsChain n c
  pub fits : FitsPlaces c
  pub number : m ≡ leads_to n c
  pub value : v ≡ value_of c
  pub none_yet : first ≡ is_empty c

-- The occupied places of the value are those of the chain.
module _ (c : List ExtHeader) (v : Ipv6Extensions) (e : v ≡ value_of c) where
  pub filled : (p : Place) → is_some (placed_fields v p) ≡ is_some (header_in p c)
  filled p = cc (placed_fields-value_of c p, is_some-map fields_of (header_in p c))

  pub next_same : (m : ℕ) → next_place (placed_fields v) m ≡ next_place (λ p. header_in p c) m
  next_same m = next_alike (placed_fields v) (λ p. header_in p c) m filled

-- One more header.
put_held : (p q : Place) (b : List ℕ) (v : Ipv6Extensions) → is_some (placed_fields v p) ≡ false → (p ≡ final_destination → is_some v.routing ≡ true)
    → placed_fields (with_header p b v) q ≡ (if index p == index q then Some (fields_of (record { number = number_in p; bytes = b })) else placed_fields v q)
put_held p q b v free nested = search rules

-- the number of empty places
abbrev pub free_places : Ipv6Extensions → ℕ
free_places v = length (filter (λ p. is_none (placed_fields v p)) places)

fewer_at : (p : Place) (b : List ℕ) (v : Ipv6Extensions) → is_some (placed_fields v p) ≡ false → (p ≡ final_destination → is_some v.routing ≡ true) → free_places (with_header p b v) < free_places v
fewer_at p b v free nested = search rules

-- the occupied places are those of the value
abbrev pub AreOccupied : Places (Unit {0}) → Ipv6Extensions → Type 0
AreOccupied o v = (p : Place) → is_some (at p o) ≡ is_some (placed_fields v p)

pub none_occupied : (o : Places (Unit {0})) (v : Ipv6Extensions) → IsVacant o → v ≡ value_of [] → AreOccupied o v
none_occupied o v vacant e p = search (rules, vacant)

pub next_occupied : (o : Places (Unit {0})) (v : Ipv6Extensions) (first : Bool) (m : ℕ) → AreOccupied o v → next_in_chain first (λ p. at p o) m ≡ next_in_chain first (placed_fields v) m
next_occupied o v first m same = let k = next_alike (λ p. at p o) (placed_fields v) m same in search rules

module _ (n : ℕ) (c : List ExtHeader) (m : ℕ) (v : Ipv6Extensions) (first : Bool) (k : IsReading n c m v first) where
  -- a number without a place, other than 0, ends the chain
  pub no_place_answers : m ≢ 0 → next_in_chain first (placed_fields v) m ≡ None → (x : List ℕ) → IsFittingAnswer n (bytes_of c ++ x) v m x None
  no_place_answers other none x = let same = next_same c v k.value m in elim (later_or m) [
    | inl later ↦ occupied_answers n c m k.chain k.fits k.number x v k.value (later, cc (ne_eqb m 0 other))
    | inr not_later ↦ other_answers n c m k.chain k.fits k.number x v k.value (search (rules, later_of))
  ]

  module _ (p : Place) (next : next_in_chain first (placed_fields v) m ≡ Some p) where
    in_chain : (place_of m (has_routing c) ≡ Some p) × (is_some (header_in p c) ≡ false)
    in_chain = search (rules, own_next (λ q. header_in q c) m p, next_same c v k.value)

    pub free : is_some (placed_fields v p) ≡ false
    free = cc (filled c v k.value p, in_chain.1)

    pub is_number_in : m ≡ number_in p
    is_number_in = place_number m p (has_routing c) in_chain.0

    -- its place is free
    pub not_occupied : IsOccupied (leads_to n c) c → ⊥
    not_occupied t = let same = next_same c v k.value m in search rules

    pub nested : p ≡ final_destination → is_some v.routing ≡ true
    nested e = search (rules, is_number_in, in_chain, filled c v k.value routing, final_after (has_routing c))

    pub reading_next : (Consumed : List ℕ → Type 0) (j : ℕ) (w : Ipv6Extensions) (r : IsReadInto Consumed p j v w) → IsReading n (c ++ record { number = m; bytes = r.bytes } ∷ []) j w false
    reading_next Consumed j w r =
        let h : ExtHeader = record { number = m; bytes = r.bytes } in
        let number = is_number_in in
        let header : IsHeader m r.bytes = rw number r.header in
        record {
          chain = chain_more n c h k.chain k.number header (search rules);
          fits = fits_more c h p k.fits in_chain.0 in_chain.1;
          number = cc (leads_to-more n c h);
          value = placed_fields_one w (value_of (c ++ h ∷ [])) (λ q.
              cc (r.value, put_held p q r.bytes v free nested, placed_fields-value_of c q, mapped_if fields_of (index p == index q) h (header_in q c), placed_fields-value_of (c ++ h ∷ []) q, placed c h p in_chain.0 (none_if (header_in p c) in_chain.1) q));
          none_yet = not_empty c h;
        }

    -- a header that is read occupies one place
    pub fewer : (Consumed : List ℕ → Type 0) (j : ℕ) (w : Ipv6Extensions) → IsReadInto Consumed p j v w → free_places w < free_places v
    fewer Consumed j w r = search (rules, fewer_at, free, nested)

    pub occupied_more : (Consumed : List ℕ → Type 0) (j : ℕ) (w : Ipv6Extensions) (o q : Places (Unit {0})) → IsReadInto Consumed p j v w → AreOccupied o v → IsPut p tt o q → AreOccupied q w
    occupied_more Consumed j w o q r same put t = search (rules, put t, same t, r.value, put_held p t r.bytes v free nested)
