-- Sums over the places of a value and over the headers of a chain.
use Rattle.ip_spec.proofs.Common.{◌≡◌, ℕ, zero, suc, ◌+◌, ◌≤◌, List, [], ◌∷◌, ◌++◌, length, refl, ap, arith, Bool, true, false, rules, Option, Some, None, sum_by, AllByRecursion, option_map, option_map_or, same_Some, length-append, sum_by-append, IsHeader, next_header, ExtHeader, leads_to, bytes_of, IsChain, FitsPlaces, Place, places, header_in, fields_of, HeaderFields, IsEncodable, fields_len, placed_len, PlacedFields, IsValueOf, IsReachable, answer_at, IsWalkAnswer, next_in_chain, IsLongestOf, index, ◌==◌, if◌then◌else◌}
use Rattle.std.specs.Prelude.{⊤}
use Rattle.ip_spec.proofs.StepLemmas.{by_more, chain_begins}
use Rattle.ip_spec.proofs.FitsLemmas.{fits_places}
use Rattle.ip_spec.proofs.WalkLemmas.{WalkAnswer, unreached, Joins, joins, there}
use Rattle.ip_spec.proofs.WalkStepLemmas.{FillsIn, Walking, without, left, some_or, walk_begins, walks_on, walk_stops, same_held, free_in_chain}

-- the sum of f over the fields in the places
abbrev pub sum_placed : (HeaderFields → ℕ) → PlacedFields → ℕ
sum_placed f v = sum_by (λ p. option_map_or f (v p) 0) places

-- Removing the header of a place subtracts its value from the sum.
module _ (g : HeaderFields → ℕ) (u w : PlacedFields) where
  pub sum_without : (p : Place) (x : HeaderFields) → u p ≡ Some x → ((q : Place) → w q ≡ without p u q) → sum_placed g w + g x ≡ sum_placed g u
  sum_without p x t e = search rules

-- The sum over a chain that fits is the sum over its places.
abbrev of_chain : List ExtHeader → PlacedFields
of_chain c p = option_map fields_of (header_in p c)

module _ (g : HeaderFields → ℕ) where
  abbrev sum_of : List ExtHeader → ℕ
  sum_of c = sum_by (λ h. g (fields_of h)) c

  sum_more : (f : ℕ) (c : List ExtHeader) (x : ExtHeader) → Joins f c x → sum_placed g (of_chain c) + g (fields_of x) ≡ sum_placed g (of_chain (c ++ x ∷ []))
  sum_more f c x j = sum_without g (of_chain (c ++ x ∷ [])) (of_chain c) j.place (fields_of x) (ap (option_map fields_of) (there j)) (search rules)

  pub sum_of_chain : (f : ℕ) (c : List ExtHeader) → IsChain f c → FitsPlaces c → sum_of c ≡ sum_placed g (of_chain c)
  sum_of_chain f = by_more (λ c. IsChain f c → FitsPlaces c → sum_of c ≡ sum_placed g (of_chain c)) (λ k fits. refl)
      (λ c x before k fits.
      let sum = before (chain_begins f c (x ∷ []) k) (fits_places.begins c (x ∷ []) fits) in
      omega (arith, sum, sum_by-append (λ h. g (fields_of h)) c (x ∷ []), sum_more f c x (joins f c x k fits)))

-- The fields determine the length of a header.
pub len_said : (h : ExtHeader) → IsHeader h.number h.bytes → length h.bytes ≡ fields_len (fields_of h)
len_said h k = search rules

bytes_sum : (c : List ExtHeader) → AllByRecursion (λ h. IsHeader h.number h.bytes) c → length (bytes_of c) ≡ sum_by (λ h. fields_len (fields_of h)) c
bytes_sum [] a = refl
bytes_sum (h ∷ c) a = omega (arith, length-append h.bytes (bytes_of c), len_said h a.0, bytes_sum c a.1, sum_by-append (λ k. fields_len (fields_of k)) (h ∷ []) c)

-- the length of a chain's bytes is that of its value
pub bytes_len : (v : PlacedFields) (f : ℕ) (c : List ExtHeader) → IsChain f c → FitsPlaces c → IsValueOf c v → length (bytes_of c) ≡ placed_len v
bytes_len v f c k fits value = cc (bytes_sum c k.headers, sum_of_chain fields_len f c k fits, same_held v (of_chain c) value)

-- A header follows in the next place, or none.
pub data Going {Y : Type 0} (v : PlacedFields) (r : Place → Option Y) (first : Bool) (m : ℕ) : Type 0 where
  ends : ((p : Place) → next_in_chain first r m ≡ Some p → v p ≡ None) → Going v r first m
  goes : (p : Place) (x : HeaderFields) → next_in_chain first r m ≡ Some p → v p ≡ Some x → Going v r first m

module _ {Y : Type 0} (v : PlacedFields) (r : Place → Option Y) (first : Bool) (m : ℕ) where
  going_at : (p : Place) (y : Option HeaderFields) → next_in_chain first r m ≡ Some p → v p ≡ y → Going v r first m
  going_at p None at e = search (rules, same_Some)
  going_at p (Some x) at e = goes p x at e

  going_to : (o : Option Place) → next_in_chain first r m ≡ o → Going v r first m
  going_to None at = search rules
  going_to (Some p) at = going_at p (v p) at refl

  pub going : Going v r first m
  going = going_to (next_in_chain first r m) refl

-- The sum over what is left after a header is that before without it.
module _ {Y Z : Type 0} (g : HeaderFields → ℕ) (v : PlacedFields) (r : Place → Option Y) (s : Place → Option Z) (m : ℕ) (first : Bool) (p : Place) (x : HeaderFields) where
  pub sum_left : next_in_chain first r m ≡ Some p → v p ≡ Some x → FillsIn p r s → sum_placed g (left v s) + g x ≡ sum_placed g (left v r)
  sum_left at there fills = search (rules, there, sum_without, left, free_in_chain)

-- A value whose headers can all be written reaches some chain.
module _ (v : PlacedFields) (f : ℕ) (e : IsEncodable v) where
  some_from : (k : ℕ) (c : List ExtHeader) (r : Place → Option ⊤) (m : ℕ) (first : Bool) → Walking v f c r m first → sum_placed (λ x. 1) (left v r) ≤ k → Going v r first m → (d : List ExtHeader) × IsLongestOf (IsReachable v f) d
  some_from k c r m first w l (ends none) = (c, walk_stops v f c r m first w none)
  some_from zero c r m first w l (goes p x at there) =
      absurd (omega (arith, l, sum_left (λ y. 1) v r (λ q. if index p == index q then Some tt else r q) m first p x at there (λ q. some_or (index p == index q) tt (r q))))
  some_from (suc k) c r m first w l (goes p x at there) =
      let h = e.encoded p x there in
      let s : Place → Option ⊤ = λ q. if index p == index q then Some tt else r q in
      let fills : FillsIn p r s = λ q. some_or (index p == index q) tt (r q) in
      let less = sum_left (λ y. 1) v r s m first p x at there fills in
      let n = next_header h.0.bytes in
      some_from k (c ++ h.0 ∷ []) s n false (walks_on v f c r m first w p x h.0 at there h.1 s n false fills refl refl)
      (omega (arith, less, l)) (going v s false n)

  pub some_reach : (c : List ExtHeader) × IsLongestOf (IsReachable v f) c
  some_reach = some_from (sum_placed (λ x. 1) v) [] (λ p. None) f true (walk_begins v f (λ p. None) (λ p. refl)) (omega arith) (going v (λ p. None) true f)

  pub some_answer : (a : WalkAnswer) × IsWalkAnswer v f a
  some_answer = let r = some_reach in (answer_at (leads_to f r.0) (unreached v r.0), record { reach = r.0; is_reach = r.1; answer = refl })
