-- A walk over headers linked in the order of their places reaches the end.
use Rattle.ip_spec.proofs.Common.{◌≡◌, ℕ, ◌+◌, ◌<◌, List, [], ◌∷◌, ◌++◌, drop, refl, ap, sym, ◌∙◌, arith, Bool, true, false, rules, Option, Some, None, is_some, nat_lt, if◌then◌else◌, option_map, cases_Bool, eqb-true, le-ltb, All-from_recursion, recursion_from_All, IsHeader, next_header, ExtHeader, Place, hop_by_hop, destination, routing, authentication, final_destination, places, index, number_in, fields_of, HeaderFields, IsCleared, IsEncoded, IsEncodable, PlacedFields, IsWalkAnswer, next_place, next_in_chain, next_of, relinked, first_number, linked, common_steps}
use Rattle.ip_spec.specs.Places.{fragment as fragment_place}
use Rattle.ip_spec.proofs.HeaderLemmas.{header-least}
use Rattle.ip_spec.proofs.PlaceLemmas.{place_of, in_both, next_own}
use Rattle.ip_spec.proofs.EncodedLemmas.{of_number}
use Rattle.ip_spec.proofs.WalkLemmas.{leads, none_if, is_some-map}
use Rattle.ip_spec.proofs.WalkStepLemmas.{FillsIn, Walking, left, walk_begins, walks_on, walk_answers, free_in_chain}
use Rattle.ip_spec.proofs.SpellingLemmas.{leads_where_none}

-- Another next header leaves a header valid.
module _ (m x0 : ℕ) (rest : List ℕ) (small : m < 256) where
  -- of number n
  pub record Relinked (n : ℕ) : Type 0 where
    pub header : IsHeader n (m ∷ rest)
    pub fields : fields_of (of_number n (m ∷ rest)) ≡ relinked m (fields_of (of_number n (x0 ∷ rest)))
    pub cleared : IsCleared (of_number n (m ∷ rest))

  abbrev Same : ℕ → Type 0
  Same n = IsHeader n (x0 ∷ rest) → IsCleared (of_number n (x0 ∷ rest)) → Relinked n

  relinked_same : (n : ℕ) → Same n
  relinked_same n h = search rules

relinked_list : (n j k : ℕ) (x : HeaderFields) (b : List ℕ) → j < 256 → IsEncoded n x (of_number k b) → (h : ExtHeader) × IsEncoded n (relinked j x) h
relinked_list n j k x [] small e = absurd (omega (arith, header-least n [] e.header))
relinked_list n j k x (x0 ∷ rest) small e =
    let same : Relinked j x0 rest small k = relinked_same j x0 rest small k (rw e.number e.header) e.cleared in
    let bytes = All-from_recursion (λ y. y < 256) (j ∷ rest) (small, (recursion_from_All (λ y. y < 256) (x0 ∷ rest) e.bytes).1) in
    search (rules, same, bytes)

pub relinked_encoded : (n j : ℕ) (x : HeaderFields) (h : ExtHeader) → j < 256 → IsEncoded n x h → (g : ExtHeader) × IsEncoded n (relinked j x) g
relinked_encoded n j x h small e = relinked_list n j h.number x h.bytes small e

pub first_number_small : (v : PlacedFields) (ps : List Place) (m : ℕ) → m < 256 → first_number v ps m < 256
first_number_small v ps m small = search rules

mapped_some : (j : ℕ) (o : Option HeaderFields) (y : HeaderFields) → option_map (relinked j) o ≡ Some y → (x : HeaderFields) × (o ≡ Some x) × (relinked j x ≡ y)
mapped_some j o y e = search rules

pub linked_encodable : (v : PlacedFields) (m : ℕ) → m < 256 → IsEncodable v → IsEncodable (linked v m)
linked_encodable v m small e = record {
  encoded = λ p y k.
      let it = mapped_some (first_number v (drop (index p + 1) places) m) (v p) y k in
      let own = e.encoded p it.0 it.1 in
      rw it.2 at (relinked_encoded (number_in p) _ it.0 own.0 (first_number_small v (drop (index p + 1) places) m small) own.1);
  nested = search (rules, is_some-map, e.nested);
}

-- the fields contain the next header
pub next_said : (h : ExtHeader) → next_of (fields_of h) ≡ next_header h.bytes
next_said h = search rules

next_relinked : (j : ℕ) (x : HeaderFields) → next_of (relinked j x) ≡ j
next_relinked j x = search rules

-- The linked headers in the first k places have been reached.
abbrev first_k : ℕ → PlacedFields → PlacedFields
first_k k w q = if nat_lt (index q) k then w q else None

module _ (v : PlacedFields) (m : ℕ) (small : m < 256) (e : IsEncodable v) where
  abbrev w : PlacedFields
  w = linked v m

  abbrev f : ℕ
  f = first_number v places m

  record Up (k : ℕ) : Type 0 where
    reached : List ExtHeader
    first : Bool
    walking : Walking w f reached (first_k k w) (first_number v (drop k places) m) first

  -- one more place
  fills : (p : Place) → is_some (w p) ≡ true → FillsIn p (first_k (index p) w) (first_k (index p + 1) w)
  fills p some q = grind (arith, common_steps, cases_Bool, eqb-true)

  module _ (p : Place) (at : drop (index p) places ≡ p ∷ drop (index p + 1) places) (up : Up (index p)) where
    step_none : v p ≡ None → Up (index p + 1)
    step_none none = grind (arith, common_steps, is_some-map)

    step_some : (x : HeaderFields) → v p ≡ Some x → next_in_chain up.first (first_k (index p) w) (number_in p) ≡ Some p → Up (index p + 1)
    step_some x some goes =
        let j : ℕ = first_number v (drop (index p + 1) places) m in
        let here : w p ≡ Some (relinked j x) = ap (option_map (relinked j)) some in
        let it = (linked_encodable v m small e).encoded p (relinked j x) here in
        let number : first_number v (drop (index p) places) m ≡ number_in p = cc in
        record {
          reached = up.reached ++ it.0 ∷ [];
          first = false;
          walking = walks_on w f up.reached (first_k (index p) w) (first_number v (drop (index p) places) m) up.first up.walking p (relinked j x) it.0
              (rw number goes) here it.1 (first_k (index p + 1) w) j false (fills p (ap is_some here)) (cc (next_said it.0, next_relinked j x)) refl;
        }

    step : ((x : HeaderFields) → v p ≡ Some x → next_in_chain up.first (first_k (index p) w) (number_in p) ≡ Some p) → Up (index p + 1)
    step goes = elim (v p) as (λ o. v p ≡ o → Up (index p + 1)) [ None ↦ step_none | Some x ↦ λ some. step_some x some (goes x some) ] refl

  -- each place is next when its turn comes
  after_routing : (k n : ℕ) (p : Place) → place_of n false ≡ Some p → place_of n true ≡ Some p → is_some (first_k k w p) ≡ false → next_place (first_k k w) n ≡ Some p
  after_routing k n p before after free = next_own (first_k k w) n p (in_both n p after before (is_some (first_k k w routing))) free

  all_reached : Up 6
  all_reached =
      let u0 : Up 0 = record { reached = []; first = true; walking = walk_begins w f (first_k 0 w) (λ q. ap (λ b. if b then w q else None) (le-ltb (index q) 0 (omega arith))) } in
      let u1 : Up 1 = step hop_by_hop refl u0 (λ x k. refl) in
      let u2 : Up 2 = step destination refl u1 (λ x k. refl) in
      let u3 : Up 3 = step routing refl u2 (λ x k. refl) in
      let u4 : Up 4 = step fragment_place refl u3 (λ x k. after_routing 3 44 fragment_place refl refl refl) in
      let u5 : Up 5 = step authentication refl u4 (λ x k. after_routing 4 51 authentication refl refl refl) in
      step final_destination refl u5
      (λ x k. next_own (first_k 5 w) 60 final_destination (ap (place_of 60) (is_some-map (relinked (first_number v (drop (index routing + 1) places) m)) (v routing) ∙ e.nested (ap is_some k))) refl)

  -- a walk over linked headers leads to m
  pub linked_leads : IsWalkAnswer (linked v m) (first_number v places m) (leads m)
  linked_leads =
      let u : Up 6 = all_reached in
      let all_in : (p : Place) → is_some (first_k 6 w p) ≡ is_some (w p) = λ p. search rules in
      let none_left : (p : Place) → None ≡ left w (first_k 6 w) p = λ p. search rules in
      walk_answers w f u.reached (first_k 6 w) m u.first u.walking (λ p. None) m (leads m)
      (λ p at. none_if (w p) (sym (all_in p) ∙ free_in_chain w (first_k 6 w) m u.first p at)) none_left refl (sym (leads_where_none m (λ p. None) (λ p. refl)))
