-- Lists when a place was moved to the end of one of them.
use Rattle.std.specs.Prelude.{◌≢◌, ◌==◌, ℕ, List, [], ◌∷◌, ◌++◌, Contains, not}
use Rattle.std.specs.List.{filter}
use Rattle.ip_lists.specs.Lists.{IsList}

-- the places but this one
abbrev pub without : ℕ → List ℕ → List ℕ
without p places = filter (λ q. not (q == p)) places

-- The lists of the other places lose this one.
abbrev pub IsTakenOut : List ℕ → List ℕ → ℕ → Type 0
IsTakenOut old new p = (h : ℕ) (places : List ℕ) → h ≢ p → IsList old h places → IsList new h (without p places)

-- The list of the head gets the place as its last member, and the lists of others lose it.
pub record IsMovedTo (old new : List ℕ) (head p : ℕ) : Type 0 where
  pub appended : (places : List ℕ) → IsList old head places → IsList new head (without p places ++ p ∷ [])
  pub others : (h : ℕ) (places : List ℕ) → h ≢ head → h ≢ p → ¬ Contains places head → IsList old h places → IsList new h (without p places)
