-- Blocks of packets, of which all take each test before any takes the next one.
use Rattle.std.specs.Prelude.{◌≡◌, ℕ, ◌<◌, ◌==◌, ◌||◌, true, List, length, drop, Bool, if◌then◌else◌, slice_index_or}
use Rattle.ip_dissect.specs.Dissection.{dissected}
use Rattle.ip_filter.specs.Tests.{meets}
use Rattle.ip_filter.specs.Program.{led_to}
use Rattle.ip_filter.specs.declared.filter.Test.{Test}
use Rattle.ip_filter.specs.declared.metadata.Metadata.{Metadata}

-- a test of metadata: of flags, of the protocol number or of the payload's length
abbrev pub AsksMetadata : Test → Type 0
AsksMetadata x = ((x.kind == 1) || (x.kind == 2) || (x.kind == 5) || (x.kind == 27)) ≡ true

-- the tests that the packet with this metadata meets
abbrev pub met_by : Metadata → Test → Bool
met_by x t = meets t (dissected x.bytes.now)

-- where the test x with the index i leads a packet whose next test is the one with the index n
abbrev pub after_test : Test → ℕ → Metadata → ℕ → ℕ
after_test x i b n = if i == n then (if met_by b x then x.if_met else x.if_not) else n

-- The tests before index i have led each packet to the index at its place.
abbrev pub AreLed : List Test → ℕ → List Metadata → List ℕ → Type 0
AreLed xs i metadata next = (j : ℕ) (d : Metadata) → j < length metadata → led_to (met_by (slice_index_or metadata j d)) i (slice_index_or next j 0) (drop i xs)
    ≡ led_to (met_by (slice_index_or metadata j d)) 0 0 xs
