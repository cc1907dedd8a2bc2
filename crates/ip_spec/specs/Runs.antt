-- The runs of a chain: its parts that each fit six places. RFC 8200, section 4.1, allows each extension header once in
-- a packet and destination options twice; a chain with more of them has several runs.
use Rattle.std.specs.Prelude.{◌≡◌, ℕ, suc, List, [], ◌∷◌, ⊤}
use Rattle.std.specs.List.{flat_map}
use Rattle.ip_spec.specs.Chain.{ExtHeader, IsChain, leads_to}
use Rattle.ip_spec.specs.Demand.{KeepsBeginning}
use Rattle.ip_spec.specs.Fits.{FitsPlaces, IsOccupied}

-- the pieces joined
abbrev pub joined : {X : Type 0} → List (List X) → List X
joined ps = flat_map (λ p. p) ps

-- the number of nonempty pieces
abbrev pub how_many : {X : Type 0} → List (List X) → ℕ
how_many [] = 0
how_many ([] ∷ ps) = how_many ps
how_many ((x ∷ p) ∷ ps) = suc (how_many ps)

-- The runs of a chain c that leads to m. The first is the beginning of c that fits. If headers are left or the place of
-- m is occupied, the runs of what is left follow; so the last run may be empty.
abbrev pub AreRuns : ℕ → List ExtHeader → List (List ExtHeader) → Type 0
AreRuns m c [] = ⊥
AreRuns m c (p ∷ []) = (c ≡ p) × FitsPlaces p × (IsOccupied m p → ⊥)
AreRuns m c (p ∷ q ∷ ps) = (k : KeepsBeginning FitsPlaces c p) × (k.rest ≡ [] → IsOccupied m p) × AreRuns m k.rest (q ∷ ps)

-- each run is a chain, from the number to which the one before it leads
abbrev pub AreChains : ℕ → List (List ExtHeader) → Type 0
AreChains n [] = ⊤
AreChains n (p ∷ ps) = IsChain n p × AreChains (leads_to n p) ps
