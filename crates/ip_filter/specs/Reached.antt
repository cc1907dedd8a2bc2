-- Where tests of flags lead a packet.
use Rattle.std.specs.Prelude.{◌≡◌, ℕ, List, Bool, drop}
use Rattle.ip_filter.specs.Program.{led_to, passes}
use Rattle.ip_filter.specs.declared.filter.Test.{Test}
use Rattle.ip_filter.specs.declared.run.Reached.{Reached}
use Rattle.ip_filter.specs.declared.run.Reached.TheVariants.{End, Next}

-- a packet that has been led from the first test to the one with index i
abbrev pub IsLedTo : List Test → (Test → Bool) → ℕ → Type 0
IsLedTo xs met i = led_to met i i (drop i xs) ≡ led_to met 0 0 xs

-- The tests lead a packet that meets these so far: past all of them, or to another one.
abbrev pub IsReached : List Test → (Test → Bool) → Reached → Type 0
IsReached xs met (End passed) = passed ≡ passes xs met
IsReached xs met (Next i) = IsLedTo xs met i
