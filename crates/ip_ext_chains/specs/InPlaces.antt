-- Headers of which each has a place of its own among the six (RFC 8200, section 4.1).
use Rattle.std.specs.Prelude.{ℕ, List}
use Rattle.std.specs.List.{AllByRecursion}
use Rattle.ip_spec.specs.Header.{IsExtensionNumber}
use Rattle.ip_spec.specs.Fits.{Fits}

-- all are extension headers, and each place has at most one; `number` gives each element's number
pub record AreInPlaces {X : Type 0} (number : X → ℕ) (xs : List X) : Type 0 where
  pub extensions : AllByRecursion (λ x. IsExtensionNumber (number x)) xs
  pub fit : Fits number xs
