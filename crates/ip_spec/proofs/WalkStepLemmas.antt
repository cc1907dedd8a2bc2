-- A walk that reaches headers of a value, one after the other.
use Rattle.ip_spec.proofs.Common.{◌≡◌, ℕ, List, [], ◌∷◌, ◌++◌, sym, ◌∙◌, Bool, true, false, arith, rules, Option, Some, None, is_some, ◌==◌, ◌&&◌, not, if◌then◌else◌, eq-eqb, common_steps, next_header, ExtHeader, leads_to, is_empty, Place, index, number_in, header_in, HeaderFields, IsEncoded, PlacedFields, IsReachable, answer_at, IsWalkAnswer, next_place, next_in_chain, IsLongestOf}
use Rattle.ip_spec.proofs.LongestOfLemmas.{longest_where_none_next}
use Rattle.ip_spec.proofs.StepLemmas.{all_more, leads_to-more, chain_more, no_chain}
use Rattle.ip_spec.proofs.FitsLemmas.{fits_places}
use Rattle.ip_spec.proofs.PlaceLemmas.{has_routing, place_number, placed, fits_more, own_next, next_own, next_alike}
use Rattle.ip_spec.proofs.WalkLemmas.{WalkAnswer, unreached, none_if, there, next_shown, shown_grows}

-- The chain c was reached from f in v; r fills its places. It leads to m, and `first` says that it has no header.
pub record Walking {Y : Type 0} (v : PlacedFields) (f : ℕ) (c : List ExtHeader) (r : Place → Option Y) (m : ℕ) (first : Bool) : Type 0 where
  pub in_value : IsReachable v f c
  pub filled : (p : Place) → is_some (r p) ≡ is_some (header_in p c)
  pub number : m ≡ leads_to f c
  pub first_is : first ≡ is_empty c

pub walk_begins : {Y : Type 0} (v : PlacedFields) (f : ℕ) (r : Place → Option Y) → ((p : Place) → r p ≡ None) → Walking v f [] r f true
walk_begins v f r none = search (rules, no_chain f, fits_places)

pub next_place_is : (z first : Bool) (o : Option Place) (p : Place) → (if z && not first then None else o) ≡ Some p → (o ≡ Some p) × (z ≡ true → first ≡ true)
next_place_is z first o p e = search rules

-- values with equal places are equal
pub same_held : (v w : PlacedFields) → ((p : Place) → v p ≡ w p) → v ≡ w
same_held v w e = λ i p. e p i

pub not_empty : (c : List ExtHeader) (h : ExtHeader) → false ≡ is_empty (c ++ h ∷ [])
not_empty c h = grind (arith, common_steps)

pub some_or : {X : Type 0} (b : Bool) (x : X) (o : Option X) → is_some (if b then Some x else o) ≡ (if b then true else is_some o)
some_or b x o = search rules

-- u with the place p empty
abbrev pub without : Place → PlacedFields → PlacedFields
without p u q = if index p == index q then None else u q

-- the fields of v in the places that r doesn't fill
abbrev pub left : {Y : Type 0} → PlacedFields → (Place → Option Y) → PlacedFields
left v r p = if is_some (r p) then None else v p

-- A header in the next place p is filled in: s has the places of r, and p.
abbrev pub FillsIn : {Y Z : Type 0} → Place → (Place → Option Y) → (Place → Option Z) → Type 0
FillsIn p r s = (q : Place) → is_some (s q) ≡ (if index p == index q then true else is_some (r q))

module _ {Y : Type 0} (v : PlacedFields) (r : Place → Option Y) (m : ℕ) (first : Bool) (p : Place) where
  pub free_in_chain : next_in_chain first r m ≡ Some p → is_some (r p) ≡ false
  free_in_chain at = search rules

module _ {Y : Type 0} (v : PlacedFields) (f : ℕ) (c : List ExtHeader) (r : Place → Option Y) (m : ℕ) (first : Bool) (k : Walking v f c r m first) where
  next_same : next_place r m ≡ next_place (λ p. header_in p c) m
  next_same = next_alike r (λ p. header_in p c) m k.filled

  -- A header h follows, in the next place.
  pub walks_on : {Z : Type 0} (p : Place) (x : HeaderFields) (h : ExtHeader) → next_in_chain first r m ≡ Some p → v p ≡ Some x → IsEncoded (number_in p) x h
      → (s : Place → Option Z) (n : ℕ) (early : Bool) → FillsIn p r s → n ≡ next_header h.bytes → early ≡ false → Walking v f (c ++ h ∷ []) s n early
  walks_on p x h at there e s n early fills en ee =
      let own = own_next (λ q. header_in q c) m p (sym next_same ∙ (next_place_is (m == 0) first (next_place r m) p at).0) in
      let same : h.number ≡ m = e.number ∙ sym (place_number m p (has_routing c) own.0) in
      let joined = placed c h p (cc) (none_if (header_in p c) own.1) in
      let chain = chain_more f c h k.in_value.chain (cc) (rw e.number e.header) (search (rules, next_place_is, eq-eqb)) in
      search (rules, fills, k.filled, joined, some_or, leads_to-more, fits_more c h p k.in_value.fits (cc) own.1, all_more)

  -- None follows: the headers reached are all.
  pub walk_stops : ((p : Place) → next_in_chain first r m ≡ Some p → v p ≡ None) → IsLongestOf (IsReachable v f) c
  walk_stops none =
      longest_where_none_next (IsReachable v f) (shown_grows v f) c k.in_value
      (λ x s. search (rules, next_shown v f c x s, next_same, none, next_own))

  pub walk_answers : (w : PlacedFields) (n : ℕ) (a : WalkAnswer) → ((p : Place) → next_in_chain first r m ≡ Some p → v p ≡ None) → ((p : Place) → w p ≡ left v r p) → n ≡ m → a ≡ answer_at n w → IsWalkAnswer v f a
  walk_answers w n a none ew en ea = search (rules, unreached, same_held, walk_stops)
