-- The longest list with a property, and properties of at most one thing.
use Rattle.std.specs.Prelude.{◌≡◌, ◌≢◌, ◌<◌, List, length}

-- c has the property P, and is longer than any other list that has it
pub record IsLongestOf {X : Type 0} (P : List X → Type 0) (c : List X) : Type 0 where
  pub has : P c
  pub longest : (d : List X) → P d → d ≢ c → length d < length c

-- no two things have the property P
abbrev pub OnlyOne : {X : Type 0} → (X → Type 0) → Type 0
OnlyOne {X} P = (x y : X) → P x → P y → x ≡ y
