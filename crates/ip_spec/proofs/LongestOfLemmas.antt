-- A property of lists under which at most one element can come next has exactly one longest list.
use Rattle.ip_spec.proofs.Common.{◌≡◌, ℕ, zero, suc, ◌+◌, ◌<◌, ◌≤◌, List, [], ◌∷◌, ◌++◌, length, refl, arith, ◌⊎◌, append_assoc, rules, length-append, common_steps, IsLongestOf}

-- each prefix has the property too, and the next element is unique
pub record Grows {X : Type 0} (P : List X → Type 0) : Type 0 where
  pub begins : (c d : List X) → P (c ++ d) → P c
  pub one_next : (c : List X) (x y : X) → P (c ++ x ∷ []) → P (c ++ y ∷ []) → x ≡ y

pub data OneBegins {X : Type 0} (c d : List X) : Type 0 where
  within : (more : List X) → c ≡ d ++ more → OneBegins c d
  beyond : (x : X) (more : List X) → d ≡ c ++ x ∷ more → OneBegins c d

pub begins_first : {X : Type 0} (P : List X → Type 0) → Grows P → (pre : List X) (x : X) (c : List X) → P (pre ++ x ∷ c) → P (pre ++ x ∷ [])
begins_first P g pre x c p = g.begins (pre ++ x ∷ []) c (rw append_assoc p)

-- two lists with the property that continue one list
compare_from : {X : Type 0} (P : List X → Type 0) → Grows P → (pre c d : List X) → P (pre ++ c) → P (pre ++ d) → OneBegins c d
compare_from P g pre [] [] p q = within [] refl
compare_from P g pre [] (y ∷ d) p q = beyond y d refl
compare_from P g pre (x ∷ c) [] p q = within (x ∷ c) refl
compare_from P g pre (x ∷ c) (y ∷ d) p q =
    let same : x ≡ y = g.one_next pre x y (begins_first P g pre x c p) (begins_first P g pre y d q) in
    let rest = compare_from P g (pre ++ x ∷ []) c d (rw append_assoc p) (rw (append_assoc, same) q) in
    elim rest [ within more e ↦ within more (cc) | beyond z more e ↦ beyond z more (cc) ]

pub compare : {X : Type 0} (P : List X → Type 0) → Grows P → (c d : List X) → P c → P d → OneBegins c d
compare P g c d p q = compare_from P g [] c d p q

-- if nothing can come next, it is the longest
pub longest_where_none_next : {X : Type 0} (P : List X → Type 0) → Grows P → (c : List X) → P c → ((x : X) → P (c ++ x ∷ []) → ⊥) → IsLongestOf P c
longest_where_none_next P g c p none = grind (arith, common_steps, compare P g c, begins_first P g c)

-- there is at most one
pub one_longest_of : {X : Type 0} (P : List X → Type 0) → Grows P → (c d : List X) → IsLongestOf P c → IsLongestOf P d → c ≡ d
one_longest_of P g c d lc ld = grind (arith, common_steps, compare P g c d lc.has ld.has)

-- it is decidable whether something comes next
abbrev pub DecidesNext : {X : Type 0} → (List X → Type 0) → Type 0
DecidesNext {X} P = (c : List X) → P c → ((x : X) × P (c ++ x ∷ [])) ⊎ ((x : X) → P (c ++ x ∷ []) → ⊥)

-- there is one, if it is decidable whether something comes next and the lists are bounded
grown : {X : Type 0} (P : List X → Type 0) → Grows P → DecidesNext P → (k bound : ℕ) → ((c : List X) → P c → length c ≤ bound) → (c : List X) → P c → bound < length c + k → (d : List X) × IsLongestOf P d
grown P g next zero bound fits c p l = absurd (omega (arith, fits c p))
grown P g next (suc k) bound fits c p l =
    search (rules, next c p, longest_where_none_next P g, length-append, grown P g next k bound fits)

pub some_longest_of : {X : Type 0} (P : List X → Type 0) → Grows P → DecidesNext P → (bound : ℕ) → ((c : List X) → P c → length c ≤ bound) → P [] → (d : List X) × IsLongestOf P d
some_longest_of P g next bound fits p = grown P g next (suc bound) bound fits [] p (omega arith)

-- two properties of the same lists have the same longest one
pub longest_same : {X : Type 0} (P R : List X → Type 0) → ((c : List X) → P c → R c) → ((c : List X) → R c → P c) → (c : List X) → IsLongestOf P c → IsLongestOf R c
longest_same P R there back c l = search (rules, there, back)
