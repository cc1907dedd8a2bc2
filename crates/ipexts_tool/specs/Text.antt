-- What is written to a string.
use Rattle.std.specs.Prelude.{◌≡◌, ℕ, List, ◌++◌, String, string_bytes}

-- new is old followed by these bytes
abbrev pub AppendsText : {Z : Type 0} → String Z → String Z → List ℕ → Type 0
AppendsText old new bytes = string_bytes new ≡ string_bytes old ++ bytes
