-- What a program of BPF says of a packet, where it can't decide each test.
use Rattle.std.specs.Prelude.{ℕ, ◌==◌, ◌||◌, Bool, List, map, if◌then◌else◌}
use Rattle.ip_dissect.specs.Dissection.{dissected}
use Rattle.ip_filter.specs.Program.{passes, tests_of}
use Rattle.ip_filter.specs.Tests.{meets}
use Rattle.ip_filter.specs.declared.filter.Filter.{Filter}
use Rattle.ip_filter.specs.declared.filter.Test.{Test}
use Rattle.ip_filter_bpf.specs.Fields.{compares_field}
use Rattle.ip_filter_bpf.specs.declared.undecided.Undecided.{Undecided}
use Rattle.ip_filter_bpf.specs.declared.undecided.Undecided.TheVariants.{Keep, Drop}

-- The program decides the test: it is one of the source, the destination, either address, or a field of the base header.
abbrev pub is_decided : Test → Bool
is_decided x = (x.kind == 8) || (x.kind == 9) || (x.kind == 10) || compares_field x.kind

-- The test, or one that leads each packet to this index, if the program doesn't decide it.
abbrev pub settled : ℕ → Test → Test
settled end x = if is_decided x then x else record x { if_met = end; if_not = end }

-- the index to which the other tests lead: the one at which a packet passes, or one without a test
abbrev pub end_of : Undecided → ℕ
end_of Keep = 64
end_of Drop = 65

-- The packet at the start of these bytes passes the filter, as far as the program decides its tests.
abbrev pub verdict : Undecided → Filter → List ℕ → Bool
verdict u f s = passes (map (settled (end_of u)) (tests_of f)) (λ x. meets x (dissected s))
