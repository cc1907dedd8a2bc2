-- Chains whose headers fit the six places, and numbers whose place is occupied after them.
use Rattle.std.specs.Prelude.{◌≡◌, ℕ, ◌≤◌, List, count_by, ◌==◌, None}
use Rattle.ip_spec.specs.Chain.{ExtHeader}
use Rattle.ip_spec.specs.Header.{IsLaterNumber}
use Rattle.ip_spec.specs.Places.{Place, number_in, side_of, header_in, next_place}

-- each place has at most one element; `number` gives each element's number
abbrev pub Fits : {X : Type 0} → (X → ℕ) → List X → Type 0
Fits number xs = (p : Place) → count_by (λ x. number x == number_in p) (side_of number p xs) ≤ 1

-- each place has at most one header
abbrev pub FitsPlaces : List ExtHeader → Type 0
FitsPlaces c = Fits (λ h. h.number) c

-- m is 43, 44, 51 or 60, and its place after the chain c is occupied
abbrev pub IsOccupied : ℕ → List ExtHeader → Type 0
IsOccupied m c = IsLaterNumber m × (next_place (λ p. header_in p c) m ≡ None)
