-- Lists with a property under which at most one element can come next, and a demand on them.
use Rattle.ip_spec.proofs.Common.{◌≡◌, ℕ, ◌≤◌, ◌<◌, List, [], ◌∷◌, ◌++◌, length, take, drop, sym, arith, subst, append_assoc, rules, append-nil, append_cancel_left, drop_more, length-append, take-append-drop, common_steps, IsLongestOf, IsDemand, NextBreaks, KeepsBeginning}
use Rattle.std.specs.Prelude.{get_or}
use Rattle.ip_spec.proofs.LongestOfLemmas.{Grows, DecidesNext, compare, begins_first, longest_where_none_next, one_longest_of, some_longest_of}

-- c has the property P and meets the demand Q
abbrev pub IsUnder : {X : Type 0} → (List X → Type 0) → (List X → Type 0) → List X → Type 0
IsUnder Q P c = P c × Q c

module _ {X : Type 0} (P Q : List X → Type 0) (g : Grows P) (k : IsDemand Q) where
  pub under_grows : Grows (IsUnder Q P)
  under_grows = search rules

  next_under : DecidesNext P → DecidesNext (IsUnder Q P)
  next_under next c p = search rules

  pub some_longest_under_of : DecidesNext P → (bound : ℕ) → ((c : List X) → P c → length c ≤ bound) → P [] → (d : List X) × IsLongestOf (IsUnder Q P) d
  some_longest_under_of next bound fits p = grind (arith, some_longest_of (IsUnder Q P) under_grows (next_under next) bound (λ c u. fits c u.0) (p, k.empty))

  -- every list under the demand is at most as long as the longest
  pub longest_under_bounds : (c d : List X) → IsLongestOf (IsUnder Q P) c → IsUnder Q P d → length d ≤ length c
  longest_under_bounds c d l u = search rules

  none_next_where_kept : (d c rest : List X) → d ≡ c ++ rest → NextBreaks Q c rest → IsLongestOf P d → (x : X) → IsUnder Q P (c ++ x ∷ []) → ⊥
  none_next_where_kept d c rest e breaks l x u = grind (arith, common_steps, append-nil, begins_first)

  -- the part of the longest that the demand keeps is the longest under the demand
  pub longest_where_kept : (d c : List X) → IsLongestOf P d → KeepsBeginning Q d c → IsLongestOf (IsUnder Q P) c
  longest_where_kept d c l p =
      longest_where_none_next (IsUnder Q P) under_grows c
      (g.begins c p.rest (subst P p.joined l.has), p.meets)
      (none_next_where_kept d c p.rest p.joined p.breaks l)

  breaks_after : (d c rest : List X) → d ≡ c ++ rest → IsLongestOf P d → IsLongestOf (IsUnder Q P) c → NextBreaks Q c rest
  breaks_after d c rest e l u = grind (arith, common_steps, begins_first)

  -- and vice versa
  pub kept_where_longest : (d c : List X) → IsLongestOf P d → IsLongestOf (IsUnder Q P) c → KeepsBeginning Q d c
  kept_where_longest d c l u = grind (arith, common_steps, compare P g d c l.has u.has.0, breaks_after d c, begins_first)

-- A demand keeps some prefix of each list.
kept_from : {X : Type 0} (Q : List X → Type 0) → IsDemand Q → (c rest : List X) → Q c → (b : List X) × KeepsBeginning Q (c ++ rest) b
kept_from Q k c [] q = search rules
kept_from Q k c (x ∷ rest) q = search (rules, k.decided (c ++ x ∷ []), kept_from Q k (c ++ x ∷ []) rest, append_assoc)

pub some_kept : {X : Type 0} (Q : List X → Type 0) → IsDemand Q → (d : List X) → (c : List X) × KeepsBeginning Q d c
some_kept Q k d = kept_from Q k [] d k.empty

-- The prefixes of a list.
abbrev pub Begins : {X : Type 0} → List X → List X → Type 0
Begins {X} d c = (rest : List X) × (d ≡ c ++ rest)

module _ {X : Type 0} (d : List X) where
  pub beginnings_grow : Grows (Begins d)
  beginnings_grow = search (rules, append_assoc, append_cancel_left)

  all_longest : IsLongestOf (Begins d) d
  all_longest = grind (arith, common_steps, longest_where_none_next, beginnings_grow, append-nil, length-append)

  module _ (Q : List X → Type 0) (k : IsDemand Q) where
    -- What a demand keeps is unique: the longest prefix that meets the demand.
    pub one_kept : (b c : List X) → KeepsBeginning Q d b → KeepsBeginning Q d c → b ≡ c
    one_kept b c p q =
        let whole = longest_where_kept (Begins d) Q beginnings_grow k d in
        search (rules, one_longest_of (IsUnder Q (Begins d)), under_grows (Begins d) Q beginnings_grow k, whole, all_longest)

    pub kept_bounds : (b c rest : List X) → KeepsBeginning Q d b → d ≡ c ++ rest → Q c → length c ≤ length b
    kept_bounds b c rest p e q = search (rules, longest_under_bounds, beginnings_grow, longest_where_kept, all_longest)

-- If the first k elements of a list meet the demand, and one more doesn't, the demand keeps these k.
module _ {X : Type 0} (Q : List X → Type 0) (xs : List X) (k : ℕ) (x : X) (within : k < length xs) where
  pub kept_first : Q (take k xs) → (Q (take k xs ++ get_or xs k x ∷ []) → ⊥) → KeepsBeginning Q xs (take k xs)
  kept_first q fails = record { rest = drop k xs; joined = sym (take-append-drop k xs); meets = q; breaks = search (rules, drop_more) }
