-- A walk over the headers of a struct of six places.
use Rattle.std.specs.Prelude.{◌≡◌, ℕ, List, ◌++◌, Bool, false, Some, None, is_some, Result, if◌then◌else◌}
use Rattle.ip_spec.specs.Chain.{ExtHeader, bytes_of}
use Rattle.ip_spec.specs.LongestOf.{IsLongestOf}
use Rattle.ip_spec.specs.Places.{Place, HeaderFields}
use Rattle.ip_spec.specs.Walk.{PlacedFields, IsReachable, IsWalkAnswer}
use Rattle.ip_spec.specs.WalkStep.{next_in_chain, next_of}
use Rattle.ip_spec.proofs.WalkStepLemmas.{Walking}
use Rattle.ip_base.specs.declared.ip_number_impl.IpNumber.{IpNumber}
use Rattle.ip_base.specs.declared.err.ipv6_exts.exts_walk_error.ExtsWalkError.{ExtsWalkError}
use Rattle.ip_ext_chains.specs.Slots.{at, IsPut}
use Rattle.ip_ext_chains.specs.Ipv6Extensions.{placed_fields}
use Rattle.ip_ext_chains.specs.declared.ipv6_exts.Ipv6Extensions.{Ipv6Extensions}
use Rattle.ip_ext_chains.specs.declared.places.Places.{Places}
use Rattle.ip_ext_chains.specs.declared.walk.Walk.{Walk}

-- the fields of the headers that aren't in the places reached
abbrev pub left_from : {T : Type 0} → Ipv6Extensions → Places T → PlacedFields
left_from headers reached p = if is_some (at p reached) then None else placed_fields headers p

-- the fields of the headers that a walk hasn't reached
abbrev pub left_in : Walk → PlacedFields
left_in w = left_from w.headers.now w.reached

-- the walk w has this position
pub record IsAt (w : Walk) (headers : Ipv6Extensions) (reached : Places (Unit {0})) (number : IpNumber) (first : Bool) : Type 0 where
  pub headers_are : w.headers.now ≡ headers
  pub reached_are : w.reached ≡ reached
  pub number_is : w.number ≡ number
  pub first_is : w.first ≡ first

-- a header with fields x is in the next place of the walk `old`, and `new` is the walk after it
pub record IsStep (old new : Walk) (x : HeaderFields) : Type 0 where
  pub place : Place
  pub own : next_in_chain old.first (λ p. at p old.reached) old.number.0 ≡ Some place
  pub there : placed_fields old.headers.now place ≡ Some x
  pub headers : new.headers ≡ old.headers
  pub put : IsPut place tt old.reached new.reached
  pub number : new.number.0 ≡ next_of x
  pub first : new.first ≡ false

-- no header is in the next place of the walk `old`, and `new` is at the same position
pub record IsStop (old new : Walk) : Type 0 where
  pub none : (p : Place) → next_in_chain old.first (λ q. at q old.reached) old.number.0 ≡ Some p → placed_fields old.headers.now p ≡ None
  pub left : (p : Place) → left_in new p ≡ left_in old p
  pub number : new.number.0 ≡ old.number.0

-- some headers were reached from f in v, and w is the walk after them
pub record Walked (v : PlacedFields) (f : ℕ) (w : Walk) : Type 0 where
  pub reached : List ExtHeader
  pub walking : Walking v f reached (λ p. at p w.reached) w.number.0 w.first
  pub value : placed_fields w.headers.now ≡ v

-- `now` is `before` followed by the bytes of the headers reached
pub record HasWritten (v : PlacedFields) (f : ℕ) (w : Walk) (before now : List ℕ) : Type 0 where
  pub walked : Walked v f w
  pub appended : now ≡ before ++ bytes_of walked.reached

-- `now` is `before` followed by the bytes of all headers that v reaches from f, and a is the result of that walk
pub record IsWalkWritten (v : PlacedFields) (f : ℕ) (before now : List ℕ) (a : Result IpNumber ExtsWalkError) : Type 0 where
  pub reached : List ExtHeader
  pub is_reached : IsLongestOf (IsReachable v f) reached
  pub answer : IsWalkAnswer v f a
  pub appended : now ≡ before ++ bytes_of reached
