-- The state of an iterator over the runs of a chain.
use Rattle.std.specs.Prelude.{◌≡◌, ℕ, List, [], ◌∷◌, map, Option, IfSome, if◌then◌else◌}
use Rattle.std.specs.Iterator.{YieldsFirst}
use Rattle.ip_spec.specs.Chain.{ExtHeader, leads_to}
use Rattle.ip_ext_chains.specs.RunsOf.{runs_from}
use Rattle.ip_ext_slices.specs.Ipv6ExtensionSliceIter.{headers_left}
use Rattle.ip_ext_chains.specs.Ipv6Extensions.{value_of}
use Rattle.ip_ext_chains.specs.Slots.{ArePlaced}
use Rattle.ip_ext_slices.specs.declared.ipv6_ext_slice.Ipv6ExtensionSlice.{Ipv6ExtensionSlice}
use Rattle.ip_ext_chains.specs.declared.ipv6_exts.Ipv6Extensions.{Ipv6Extensions}
use Rattle.ip_ext_chains.specs.declared.places.Places.{Places}
use Rattle.ip_ext_chains.specs.declared.ipv6_exts_runs.Ipv6ExtensionsRuns.{Ipv6ExtensionsRuns}

-- the number and the bytes with which it was created
abbrev pub start : Ipv6ExtensionsRuns → ℕ
start r = r.first.0

abbrev pub input : Ipv6ExtensionsRuns → List ℕ
input r = r.bytes.now

-- the remaining runs
abbrev pub runs_left : Ipv6ExtensionsRuns → List (List ExtHeader)
runs_left r = if r.done then [] else runs_from r.number.0 (headers_left r.headers)

-- the remaining values
abbrev pub values_left : Ipv6ExtensionsRuns → List Ipv6Extensions
values_left r = map value_of (runs_left r)

-- the number of the first header, or m if there is none
abbrev pub number_before : ℕ → List ExtHeader → ℕ
number_before m [] = m
number_before m (h ∷ c) = h.number

-- the number from which the next run is to be written
abbrev pub number_left : Ipv6ExtensionsRuns → ℕ
number_left r = number_before r.number.0 (headers_left r.headers)

-- the first of the remaining runs has been returned, and the number left is the one to which it leads
abbrev pub PassesRun : Ipv6ExtensionsRuns → Ipv6ExtensionsRuns → Type 0
PassesRun r s = (p : List ExtHeader) × (runs_left r ≡ p ∷ runs_left s) × (number_left s ≡ leads_to (number_left r) p)

-- the headers of the next run are in the places, and the number and bytes with which the iterator was created are
-- unchanged
abbrev pub TakesRun : Ipv6ExtensionsRuns → Places Ipv6ExtensionSlice → Ipv6ExtensionsRuns → Type 0
TakesRun r v s = (p : PassesRun r s) × ArePlaced p.0 v × (start s ≡ start r) × (input s ≡ input r)

-- the value of the next run is returned, and the number and bytes with which the iterator was created are unchanged
abbrev pub GivesRun : Ipv6ExtensionsRuns → Option Ipv6Extensions → Ipv6ExtensionsRuns → Type 0
GivesRun r x s = YieldsFirst values_left r x s × (start s ≡ start r) × (input s ≡ input r) × IfSome x (λ _. PassesRun r s)
