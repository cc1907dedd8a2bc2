-- What is known of a packet after a visit.
use Rattle.std.specs.Prelude.{◌≡◌, ℕ, List, true, false}
use Rattle.ip_dissect.specs.Dissection.{dissected}
use Rattle.ip_dissect.specs.Summary.{is_plain}
use Rattle.ip_dissect.specs.declared.visitor.Visited.{Visited}
use Rattle.ip_dissect.specs.declared.visitor.Visited.TheVariants.{Plain, Slow}

-- A visit of the packet at the start of bytes s changed the visitor from old to new, by the relation plain or slow.
abbrev pub IsVisited : {S P O : Type 0} → (S → List ℕ → S → P → Type 0) → (S → List ℕ → S → O → Type 0) → S → List ℕ → S → Visited P O → Type 0
IsVisited plain slow old s new (Plain x) = (is_plain (dissected s) ≡ true) × plain old s new x
IsVisited plain slow old s new (Slow x) = (is_plain (dissected s) ≡ false) × slow old s new x
