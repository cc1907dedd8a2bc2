-- The runs of a chain.
use Rattle.ip_spec.proofs.Common.{◌≡◌, ◌≢◌, ℕ, zero, suc, ◌+◌, ◌/◌, ◌≤◌, List, [], ◌∷◌, ◌++◌, length, drop, refl, ap, sym, ◌∙◌, arith, inl, inr, ◌⊎◌, subst, append_assoc, rules, flat_map, AllByRecursion, append-nil, append_cancel_left, length-append, map-append, flat_map-append, next_header, ExtHeader, leads_to, bytes_of, is_empty, IsChain, IsPrefixChain, IsLongestChain, IsEnd, KeepsBeginning, IsLongestUnder, FitsPlaces, IsOccupied, cleared_chain, joined, how_many, AreRuns, AreChains, common_steps}
use Rattle.ip_spec.proofs.HeaderLemmas.{later_not_zero, later_or}
use Rattle.ip_spec.proofs.PrefixLemmas.{prefix_second, rest_join, prefix-length}
use Rattle.ip_spec.proofs.LongestOfLemmas.{compare, within, beyond}
use Rattle.ip_spec.proofs.StepLemmas.{begins, chain_begins, tail_chain, bytes_of-least}
use Rattle.ip_spec.proofs.UnderLemmas.{kept_is_longest}
use Rattle.ip_spec.proofs.ChainLemmas.{longest_at_end, longest_ends}
use Rattle.ip_spec.proofs.DemandLemmas.{Begins, beginnings_grow, some_kept, one_kept, kept_bounds}
use Rattle.ip_spec.proofs.PlaceLemmas.{bare, occupied_breaks, fits_next}
use Rattle.ip_spec.proofs.FitsLemmas.{fits_places, fits_after, next_occupied}

abbrev Pieces : Type 0
Pieces = List (List ExtHeader)

occupied_or : (m : ℕ) (c : List ExtHeader) → IsOccupied m c ⊎ (IsOccupied m c → ⊥)
occupied_or m c = search (rules, later_or)

module _ (m : ℕ) (c p : List ExtHeader) (k : KeepsBeginning FitsPlaces c p) (on : k.rest ≡ [] → IsOccupied m p) where
  pub runs_more : (ps : Pieces) → AreRuns m k.rest ps → AreRuns m c (p ∷ ps)
  runs_more [] a = absurd a
  runs_more (q ∷ ps) a = (k, on, a)

  fewer_left : suc (length k.rest) ≤ length c
  fewer_left = grind (arith, common_steps, length-append, occupied_breaks, bare, fits_next)

-- There is exactly one list of runs.
data First (m : ℕ) (c : List ExtHeader) : Type 0 where
  ends : FitsPlaces c → (IsOccupied m c → ⊥) → First m c
  goes : (p : List ExtHeader) (k : KeepsBeginning FitsPlaces c p) → (k.rest ≡ [] → IsOccupied m p) → First m c

first_at : (m : ℕ) (c p : List ExtHeader) (k : KeepsBeginning FitsPlaces c p) (rest : List ExtHeader) → k.rest ≡ rest → First m c
first_at m c p k [] e = elim (occupied_or m p) [
  | inl occupied ↦ goes p k (λ none. occupied)
  | inr free ↦ let whole : p ≡ c = cc (append-nil p) in subst (First m) whole (ends k.meets free)
]
first_at m c p k (h ∷ rest) e = goes p k (λ none. cc)

first : (m : ℕ) (c : List ExtHeader) → First m c
first m c = let kept = some_kept FitsPlaces fits_places c in first_at m c kept.0 kept.1 kept.1.rest refl

runs_within : (bound m : ℕ) (c : List ExtHeader) → length c ≤ bound → First m c → (ps : Pieces) × AreRuns m c ps
runs_within bound m c few (ends fits free) = (c ∷ [], (refl, fits, free))
runs_within zero m c few (goes p k on) = absurd (omega (arith, few, fewer_left m c p k on))
runs_within (suc bound) m c few (goes p k on) =
    let others = runs_within bound m k.rest (omega (arith, few, fewer_left m c p k on)) (first m k.rest) in
    (p ∷ others.0, runs_more m c p k on others.0 others.1)

pub some_runs : (m : ℕ) (c : List ExtHeader) → (ps : Pieces) × AreRuns m c ps
some_runs m c = runs_within (length c) m c (omega arith) (first m c)

-- the whole list is kept if it meets the demand
abbrev all_kept : (c p : List ExtHeader) → c ≡ p → FitsPlaces p → KeepsBeginning FitsPlaces c p
all_kept c p e fits = record { rest = []; joined = e ∙ sym (append-nil p); meets = fits; breaks = tt }

abbrev first_kept : (m : ℕ) (c p : List ExtHeader) (ps : Pieces) → AreRuns m c (p ∷ ps) → KeepsBeginning FitsPlaces c p
first_kept m c p [] a = all_kept c p a.0 a.1
first_kept m c p (q ∷ ps) a = a.0

rest_same : (c p q : List ExtHeader) (k : KeepsBeginning FitsPlaces c p) (j : KeepsBeginning FitsPlaces c q) → (p ≡ q) × (k.rest ≡ j.rest)
rest_same c p q k j = search (rules, one_kept c FitsPlaces fits_places p q k j, append_cancel_left)

ends_free : (m : ℕ) (c p q r : List ExtHeader) (ps : Pieces) → AreRuns m c (p ∷ []) → AreRuns m c (q ∷ r ∷ ps) → ⊥
ends_free m c p q r ps a b = let same = rest_same c p q (all_kept c p a.0 a.1) b.0 in search (rules, same)

pub one_runs : (m : ℕ) (c : List ExtHeader) (ps qs : Pieces) → AreRuns m c ps → AreRuns m c qs → ps ≡ qs
one_runs m c [] qs a b = absurd a
one_runs m c (p ∷ ps) [] a b = absurd b
one_runs m c (p ∷ []) (q ∷ []) a b = cc
one_runs m c (p ∷ []) (q ∷ r ∷ qs) a b = absurd (ends_free m c p q r qs a b)
one_runs m c (p ∷ r ∷ ps) (q ∷ []) a b = absurd (ends_free m c q p r ps b a)
one_runs m c (p ∷ r ∷ ps) (q ∷ t ∷ qs) a b =
    let same = rest_same c p q a.0 b.0 in
    cc (one_runs m a.0.rest (r ∷ ps) (t ∷ qs) a.2 (rw same.1 b.2))

-- No header is lost.
pub runs_joined : (m : ℕ) (c : List ExtHeader) (ps : Pieces) → AreRuns m c ps → joined ps ≡ c
runs_joined m c [] a = absurd a
runs_joined m c (p ∷ []) a = append-nil p ∙ sym a.0
runs_joined m c (p ∷ q ∷ ps) a = ap (λ l. p ++ l) (runs_joined m a.0.rest (q ∷ ps) a.2) ∙ sym a.0.joined

written_joined : (ps : Pieces) → flat_map (λ p. bytes_of (cleared_chain p)) ps ≡ bytes_of (cleared_chain (joined ps))
written_joined [] = refl
written_joined (p ∷ ps) = simp (written_joined ps, map-append, flat_map-append)

pub runs_written : (m : ℕ) (c : List ExtHeader) (ps : Pieces) → AreRuns m c ps → flat_map (λ p. bytes_of (cleared_chain p)) ps ≡ bytes_of (cleared_chain c)
runs_written m c ps a = written_joined ps ∙ ap (λ d. bytes_of (cleared_chain d)) (runs_joined m c ps a)

pub runs_fit : (m : ℕ) (c : List ExtHeader) (ps : Pieces) → AreRuns m c ps → AllByRecursion FitsPlaces ps
runs_fit m c [] a = absurd a
runs_fit m c (p ∷ []) a = (a.1, tt)
runs_fit m c (p ∷ q ∷ ps) a = (a.0.meets, runs_fit m a.0.rest (q ∷ ps) a.2)

-- There is at least one run, and at most one per header and one more.
pub some_run : (m : ℕ) (c : List ExtHeader) (ps : Pieces) → AreRuns m c ps → 1 ≤ length ps
some_run m c [] a = absurd a
some_run m c (p ∷ ps) a = omega arith

count_runs : (m : ℕ) (c : List ExtHeader) (ps : Pieces) → AreRuns m c ps → length ps ≤ length c + 1
count_runs m c [] a = absurd a
count_runs m c (p ∷ []) a = omega arith
count_runs m c (p ∷ q ∷ ps) a = omega (arith, count_runs m a.0.rest (q ∷ ps) a.2, fewer_left m c p a.0 a.1)

pub runs_bound : (n : ℕ) (s : List ℕ) (c : List ExtHeader) (m : ℕ) (ps : Pieces) → IsPrefixChain n s c → AreRuns m c ps → length ps ≤ length s / 8 + 1
runs_bound n s c m ps q a = omega (arith, count_runs m c ps a, bytes_of-least c q.chain.headers, prefix-length (bytes_of c) s q.prefix)

-- The nonempty pieces.
pub how_many-filled : {X : Type 0} (ps : List (List X)) → AllByRecursion (λ p. p ≢ []) ps → how_many ps ≡ length ps
how_many-filled [] a = refl
how_many-filled (p ∷ ps) a = search (rules, how_many-filled ps)

pub how_many-more : {X : Type 0} (ps : List (List X)) → how_many (ps ++ [] ∷ []) ≡ how_many ps
how_many-more [] = refl
how_many-more (p ∷ ps) = search (rules, how_many-more ps)

-- a piece adds at most one, and one if it has an element
how_many-least : {X : Type 0} (p : List X) (ps : List (List X)) → how_many ps ≤ how_many (p ∷ ps)
how_many-least p ps = search rules

how_many-most : {X : Type 0} (p : List X) (ps : List (List X)) → how_many (p ∷ ps) ≤ suc (how_many ps)
how_many-most p ps = search rules

how_many-beyond : {X : Type 0} (p : List X) (x : X) (q : List X) (ps : List (List X)) → how_many ((p ++ x ∷ q) ∷ ps) ≡ suc (how_many ps)
how_many-beyond [] x q ps = refl
how_many-beyond (y ∷ p) x q ps = refl

none_nonempty : {X : Type 0} (ps : List (List X)) → length (joined ps) ≡ 0 → how_many ps ≡ 0
none_nonempty [] e = refl
none_nonempty (p ∷ ps) e = search (rules, none_nonempty ps)

others_fewer : (rs : Pieces) (m : ℕ) (d p : List ExtHeader) (ps : Pieces) (a : AreRuns m d (p ∷ ps)) → ((qs : Pieces) → AreRuns m (first_kept m d p ps a).rest qs → how_many qs ≤ how_many rs) → how_many ps ≤ how_many rs
others_fewer rs m d p ps a less = search rules

-- If d is a suffix of the concatenation of pieces that fit, no more of its runs have headers than of those pieces.
fewest : (rs : Pieces) (m : ℕ) (x d : List ExtHeader) (ps : Pieces) → x ++ d ≡ joined rs → AllByRecursion FitsPlaces rs → AreRuns m d ps → how_many ps ≤ how_many rs
fewest [] m x d ps e fit a = omega (arith, none_nonempty ps (ap length (runs_joined m d ps a) ∙ omega (arith, ap length e, length-append x d)))
fewest (r ∷ rs) m x d [] e fit a = absurd a
fewest (r ∷ rs) m x d (p ∷ ps) e fit a = elim (compare (Begins (r ++ joined rs)) (beginnings_grow (r ++ joined rs)) x r (d, sym e) (joined rs, refl)) [
  | within more w ↦
      let rest : more ++ d ≡ joined rs = append_cancel_left r (more ++ d) (joined rs) (cc (append_assoc r more d)) in
      omega (arith, fewest rs m more d (p ∷ ps) rest fit.1 a, how_many-least r rs)
  | beyond y more w ↦
      let z : List ExtHeader = y ∷ more in
      let back : d ≡ z ++ joined rs = append_cancel_left x d (z ++ joined rs) (cc (append_assoc x z (joined rs))) in
      let kept : KeepsBeginning FitsPlaces d p = first_kept m d p ps a in
      let shorter : length z ≤ length p = kept_bounds d FitsPlaces fits_places p z (joined rs) kept back (fits_after x z (rw w at fit.0)) in
      let count : how_many (r ∷ rs) ≡ suc (how_many rs) = cc (how_many-beyond x y more rs) in
      elim (compare (Begins d) (beginnings_grow d) p z (kept.rest, kept.joined) (joined rs, back)) [
        | beyond v t u ↦ absurd (omega (arith, shorter, ap length u, length-append p (v ∷ t)))
        | within t u ↦
            let rest : t ++ kept.rest ≡ joined rs = append_cancel_left z (t ++ kept.rest) (joined rs) (cc (append_assoc z t kept.rest)) in
            omega (arith, others_fewer rs m d p ps a (λ qs b. fewest rs m t kept.rest qs rest fit.1 b), how_many-most p ps, count)
      ]
]

-- no partition into pieces that fit has fewer nonempty ones
pub fewest_runs : (m : ℕ) (c : List ExtHeader) (ps rs : Pieces) → AreRuns m c ps → joined rs ≡ c → AllByRecursion FitsPlaces rs → how_many ps ≤ how_many rs
fewest_runs m c ps rs a e fit = fewest rs m [] c ps (sym e) fit a

-- Each run is a chain, from the number to which the one before it leads.
pub chain_after : (n : ℕ) (c d : List ExtHeader) → IsChain n (c ++ d) → IsChain (leads_to n c) d
chain_after n [] d k = k
chain_after n (h ∷ c) d k = chain_after (next_header h.bytes) c d (tail_chain n h (c ++ d) k)

chains_joined : (n : ℕ) (ps : Pieces) → IsChain n (joined ps) → AreChains n ps
chains_joined n [] k = tt
chains_joined n (p ∷ ps) k = (chain_begins n p (joined ps) k, chains_joined (leads_to n p) ps (chain_after n p (joined ps) k))

pub runs_chains : (n m : ℕ) (c : List ExtHeader) (ps : Pieces) → IsChain n c → AreRuns m c ps → AreChains n ps
runs_chains n m c ps k a = chains_joined n ps (rw (runs_joined m c ps a) k)

-- After a prefix of the longest chain, its rest is the longest chain from there.
pub leads_to-append : (n : ℕ) (c d : List ExtHeader) → leads_to n (c ++ d) ≡ leads_to (leads_to n c) d
leads_to-append n [] d = refl
leads_to-append n (h ∷ c) d = leads_to-append (next_header h.bytes) c d

module _ (n : ℕ) (s : List ℕ) (p : List ExtHeader) where
  abbrev number : ℕ
  number = leads_to n p

  abbrev rest : List ℕ
  rest = drop (length (bytes_of p)) s

  rest_prefix : (c : List ExtHeader) → IsPrefixChain n s (p ++ c) → IsPrefixChain number rest c
  rest_prefix c q = search (rules, chain_after n p c q.chain, flat_map-append, prefix_second)

  rest_ends : (c : List ExtHeader) → (c ≡ [] → number ≢ 0) → IsLongestChain n s (p ++ c) → IsEnd (is_empty c) (leads_to number c) (drop (length (bytes_of c)) rest)
  rest_ends c nz l h x = search (rules, leads_to-append, begins, rest_join, rest_prefix, flat_map-append, longest_ends, first)

  pub rest_longest : (c : List ExtHeader) → (c ≡ [] → number ≢ 0) → IsLongestChain n s (p ++ c) → IsLongestChain number rest c
  rest_longest c nz l = longest_at_end number rest c (rest_prefix c l.has) (rest_ends c nz l)

-- So the first run is the longest chain that fits, and the others are the runs of the longest chain after it.
module _ (n : ℕ) (s : List ℕ) (c p : List ExtHeader) (l : IsLongestChain n s c) where
  pub first_is_longest : (ps : Pieces) → AreRuns (leads_to n c) c (p ∷ ps) → IsLongestUnder FitsPlaces n s p
  first_is_longest ps a = search (rules, kept_is_longest, fits_places, first_kept)

  pub last_is_free : AreRuns (leads_to n c) c (p ∷ []) → IsOccupied (leads_to n p) p → ⊥
  last_is_free a = rw a.0 at a.2

  pub others_follow : (q : List ExtHeader) (ps : Pieces) → AreRuns (leads_to n c) c (p ∷ q ∷ ps)
      → IsOccupied (leads_to n p) p × ((d : List ExtHeader) × IsLongestChain (leads_to n p) (drop (length (bytes_of p)) s) d × AreRuns (leads_to (leads_to n p) d) d (q ∷ ps))
  others_follow q ps a =
      let k = a.0 in
      let R : ℕ → Type 0 = λ m. AreRuns m k.rest (q ∷ ps) in
      let whole : IsLongestChain n s (p ++ k.rest) = rw k.joined at l in
      let leads : leads_to n c ≡ leads_to (leads_to n p) k.rest = cc (leads_to-append n p k.rest) in
      let occupied = next_occupied n s p k.rest whole.has k.meets k.breaks (λ none. rw (leads, none) at (a.1 none)) in
      (occupied, (k.rest, rest_longest n s p k.rest (λ none. later_not_zero (leads_to n p) occupied.0) whole, subst R leads a.2))
