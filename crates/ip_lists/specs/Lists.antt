-- Circular lists of places. One array has the place after each place, the other one the place before it.
use Rattle.std.specs.Prelude.{◌≡◌, ◌≢◌, ℕ, List, [], ◌∷◌, length, slice_get, Some}

-- `q` comes right after `p`, by both arrays.
abbrev pub AreNeighbours : List ℕ → List ℕ → ℕ → ℕ → Type 0
AreNeighbours next previous p q = (slice_get next p ≡ Some q) × (slice_get previous q ≡ Some p)

-- The arrays agree: by one of them a place comes right after another exactly if it does by the other one. So each link is
-- to a place of the arrays.
pub record AreInverse (next previous : List ℕ) : Type 0 where
  pub as_many : length previous ≡ length next
  pub back : (p q : ℕ) → slice_get next p ≡ Some q → slice_get previous q ≡ Some p
  pub forth : (p q : ℕ) → slice_get previous q ≡ Some p → slice_get next p ≡ Some q

-- By both arrays, there is a place right before this one and a place right after it.
abbrev pub HasNeighbours : List ℕ → List ℕ → ℕ → Type 0
HasNeighbours next previous p = (a : ℕ) × (b : ℕ) × AreNeighbours next previous a p × AreNeighbours next previous p b

-- The place is in no list: it comes after itself.
abbrev pub IsAlone : List ℕ → List ℕ → ℕ → Type 0
IsAlone next previous p = AreNeighbours next previous p p

-- The place is in no list and isn't the head, and by both arrays there is a place right before the head.
abbrev pub CanAppend : List ℕ → List ℕ → ℕ → ℕ → Type 0
CanAppend next previous head p = (p ≢ head) × IsAlone next previous p × ((l : ℕ) × AreNeighbours next previous l head)

-- After `from` come these places, one after another, and then `end`, which is none of them.
abbrev pub IsPath : List ℕ → ℕ → List ℕ → ℕ → Type 0
IsPath next from [] end = slice_get next from ≡ Some end
IsPath next from (place ∷ places) end = (slice_get next from ≡ Some place) × (place ≢ end) × IsPath next place places end

-- The list of this head has these members: after the head come these places, one after another, and then the head again.
abbrev pub IsList : List ℕ → ℕ → List ℕ → Type 0
IsList next head members = IsPath next head members head
