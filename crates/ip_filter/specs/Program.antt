-- Programs of tests, each of which leads on to another: what a filter's text is compiled to.
use Rattle.std.specs.Prelude.{ℕ, suc, List, [], ◌∷◌, take, Bool, false, ◌==◌, if◌then◌else◌, Option, Some, None}
use Rattle.ip_dissect.specs.Dissection.{dissected}
use Rattle.ip_filter.specs.Truth.{holds}
use Rattle.ip_filter.specs.declared.term.Term.{Term}
use Rattle.ip_filter.specs.declared.filter.Test.{Test}
use Rattle.ip_filter.specs.declared.filter.Filter.{Filter}

-- the index after all tests at which a packet has passed
abbrev pub PASSED : ℕ
PASSED = 64

-- Where the tests from index i on lead a packet whose next test is the one at index `next`. No test leads back: an index
-- before i is not met any more.
abbrev pub led_to : (Test → Bool) → ℕ → ℕ → List Test → ℕ
led_to met i next [] = next
led_to met i next (x ∷ xs) = led_to met (suc i) (if i == next then (if met x then x.if_met else x.if_not) else next) xs

-- a packet that meets these tests passes the program
abbrev pub passes : List Test → (Test → Bool) → Bool
passes xs met = led_to met 0 0 xs == PASSED

-- the tests of a filter
abbrev pub tests_of : Filter → List Test
tests_of x = take x.count x.tests

-- a term holds of a frame: of the packet at the start of its bytes; none holds of a frame that is not IP
abbrev pub frame_holds : Option (List ℕ) → Term → Bool
frame_holds None t = false
frame_holds (Some s) t = holds t (dissected s)
