-- A payload that is split into fragments (RFC 791, section 3.2; RFC 8200, section 4.5), and fragments that were added.
use Rattle.std.specs.Prelude.{◌≡◌, ℕ, ◌+◌, ◌%◌, ◌<◌, ◌≤◌, Bool, true, false, List, [], ◌∷◌, take, drop, length}
use Rattle.std.specs.List.{list_any, list_all}
use Rattle.ip_reassembly.specs.Fragment.{Fragment, is_same}
use Rattle.ip_reassembly.specs.Received.{received_none, received_all}
use Rattle.ip_reassembly.specs.Reassembly.{HasReceived}
use Rattle.ip_reassembly.specs.declared.reassembly.Reassembly.{Reassembly}

-- The fragments, in order, are those of the rest of a payload from this offset on: all but the last have the flag and a
-- positive multiple of 8 bytes, and the last doesn't have the flag.
abbrev pub SplitsFrom : ℕ → List ℕ → List Fragment → Type 0
SplitsFrom offset rest [] = ⊥
SplitsFrom offset rest (f ∷ []) = f ≡ record { offset = offset; more = false; bytes = rest }
SplitsFrom offset rest (f ∷ g ∷ fs) = (n : ℕ) × (0 < n) × (n ≤ length rest) × (n % 8 ≡ 0)
    × (f ≡ record { offset = offset; more = true; bytes = take n rest }) × SplitsFrom (offset + n) (drop n rest) (g ∷ fs)

-- The fragments, in order, are those of a payload.
abbrev pub IsSplit : List ℕ → List Fragment → Type 0
IsSplit payload fs = SplitsFrom 0 payload fs

-- Each of the first fragments is one of the others.
abbrev pub are_among : List Fragment → List Fragment → Bool
are_among fs gs = list_all (λ f. list_any (is_same f) gs) fs

-- The reassembly was new, with room for so many bytes, and then these fragments were added, the newest first.
abbrev pub WasGiven : Reassembly → ℕ → Bool → List Fragment → Type 0
WasGiven r limit abandons fs = HasReceived r (received_all (received_none limit abandons) fs)
