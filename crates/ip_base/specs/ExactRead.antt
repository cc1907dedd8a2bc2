-- The refusal of a read of a number of bytes, for a steady reader and for any other.
use Rattle.std.specs.Prelude.{ℕ, ◌<◌, Bool, List, length, Option, IfSome, IsTrue}
use Rattle.std.specs.Bool.{OnTrue, OnFalse}

-- P holds of the bytes that a steady reader has left
abbrev pub IfSteady : Bool → Option (List ℕ) → (List ℕ → Type 0) → Type 0
IfSteady steady left P = OnTrue steady (IfSome left P)

-- a read of count bytes was refused: a steady reader has fewer left, and any other has failed from then on
pub record IsRefusal (steady : Bool) (left : Option (List ℕ)) (count : ℕ) (failed : Bool) : Type 0 where
  pub short : IfSteady steady left (λ s. length s < count)
  pub failure : OnFalse steady (IsTrue failed)
