-- Bytes as pieces, one after another. A state says which bytes are a piece, and each piece leads to the next state.
use Rattle.std.specs.Prelude.{◌≡◌, ℕ, zero, suc, List, [], ◌∷◌, ◌++◌, take, drop, length, Option, ⊤}
use Rattle.std.specs.List.{concat}
use Rattle.std.specs.Option.{option_map_or}

-- Each of the bytes is a piece, the first in state c and each other one in the state to which the one before leads.
abbrev pub ArePieces : {C : Type 0} → (C → List ℕ → Type 0) → (C → List ℕ → C) → C → List (List ℕ) → Type 0
ArePieces IsPiece after c [] = ⊤
ArePieces IsPiece after c (p ∷ ps) = IsPiece c p × ArePieces IsPiece after (after c p) ps

-- the state after the pieces
abbrev pub state_after : {C : Type 0} → (C → List ℕ → C) → C → List (List ℕ) → C
state_after after c [] = c
state_after after c (p ∷ ps) = state_after after (after c p) ps

-- The bytes begin with a piece.
abbrev pub BeginsWithPiece : {C : Type 0} → (C → List ℕ → Type 0) → C → List ℕ → Type 0
BeginsWithPiece IsPiece c s = (p rest : List ℕ) × IsPiece c p × (s ≡ p ++ rest)

-- The longest list of pieces that begins the bytes s, and the rest: the pieces and the rest, joined, are s, and the rest doesn't
-- begin with a piece.
pub record AreLongest {C : Type 0} (IsPiece : C → List ℕ → Type 0) (after : C → List ℕ → C) (c : C) (s : List ℕ) (ps : List (List ℕ)) (rest : List ℕ) : Type 0 where
  pub pieces : ArePieces IsPiece after c ps
  pub joined : s ≡ concat ps ++ rest
  pub longest : ¬ BeginsWithPiece IsPiece (state_after after c ps) rest

-- The pieces that begin the bytes, at most so many, where `len` is the length of the first one.
abbrev pub pieces_within : {C : Type 0} → (C → List ℕ → Option ℕ) → (C → List ℕ → C) → ℕ → C → List ℕ → List (List ℕ)
pieces_within len after zero c s = []
pieces_within len after (suc n) c s = option_map_or (λ k. take k s ∷ pieces_within len after n (after c (take k s)) (drop k s)) (len c s) []

-- all of them, since each has a byte
abbrev pub pieces_in : {C : Type 0} → (C → List ℕ → Option ℕ) → (C → List ℕ → C) → C → List ℕ → List (List ℕ)
pieces_in len after c s = pieces_within len after (length s) c s
