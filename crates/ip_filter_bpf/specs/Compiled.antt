-- How tests are compiled.
use Rattle.std.specs.Prelude.{◌≡◌, ℕ, ◌==◌, ◌^◌, ◌-◌, ◌<◌, nat_lt, Bool, List, length, map, drop, slice_index, Some, if◌then◌else◌}
use Rattle.ip_bpf.specs.Machine.{result_of}
use Rattle.ip_bpf.specs.Programs.{IsProgram}
use Rattle.ip_bpf.specs.declared.instruction.Instruction.{Instruction}
use Rattle.ip_dissect.specs.Dissection.{dissected}
use Rattle.ip_filter.specs.Program.{led_to}
use Rattle.ip_filter.specs.Tests.{meets}
use Rattle.ip_filter.specs.declared.filter.Filter.{Filter}
use Rattle.ip_filter.specs.declared.filter.Test.{Test}
use Rattle.ip_filter_bpf.specs.Blocks.{HasBytes}
use Rattle.ip_filter_bpf.specs.Verdict.{settled, end_of, verdict}
use Rattle.ip_filter_bpf.specs.declared.undecided.Undecided.{Undecided}
use Rattle.ip_filter_bpf.specs.declared.undecided.Undecided.TheVariants.{Keep, Drop}
use Rattle.ip_filter_bpf.specs.declared.version.Version.{Version}
use Rattle.ip_filter_bpf.specs.declared.version.Version.TheVariants as version

-- the version of the packets, 0 without a base header
abbrev pub number_of : Version → ℕ
number_of version.None = 0
number_of version.Ipv4 = 4
number_of version.Ipv6 = 6

-- the most instructions of a comparison of one address
abbrev pub room_of : Version → ℕ
room_of version.None = 0
room_of version.Ipv4 = 5
room_of version.Ipv6 = 20

-- what a program returns: all bytes of the packet, or none
abbrev pub returned : Bool → ℕ
returned passes = if passes then 2 ^ 32 - 1 else 0

-- The kernel accepts the program, and of each packet of less than 4 GiB it returns all bytes if the packet passes, otherwise none.
abbrev pub IsCompiled : Undecided → Filter → List Instruction → Type 0
IsCompiled u f program =
    IsProgram program × ((packet : List ℕ) → HasBytes packet → length packet < 2 ^ 32
    → result_of program packet ≡ Some (returned (verdict u f packet)))

-- The label of the test with an index, in a program of which the last instructions are the two returns. Tests lead on to later ones.
abbrev pub exit_label : List ℕ → ℕ → ℕ → ℕ
exit_label labels index to = if to == 64 then 2 else if nat_lt index to then (if nat_lt to 64 then slice_index labels to else 1) else 1

-- the label for packets that the program doesn't decide
abbrev pub end_label : Undecided → ℕ
end_label Keep = 2
end_label Drop = 1

-- a packet that was led to the index `to` after so many tests passes
abbrev pub passes_from : Undecided → List Test → ℕ → ℕ → List ℕ → Bool
passes_from u xs index to s = led_to (λ x. meets x (dissected s)) index to (map (settled (end_of u)) (drop index xs)) == 64

-- the label for packets of this version
abbrev pub label_of : ℕ → ℕ → ℕ → ℕ → ℕ
label_of none ipv4 ipv6 version = if version == 4 then ipv4 else if version == 6 then ipv6 else none
