-- What code does from a label on, whatever the machine is there.
use Rattle.std.specs.Prelude.{◌≡◌, ℕ, ◌+◌, ◌*◌, ◌^◌, ◌<◌, false, List, slice_index, Some}
use Rattle.ip_bpf.specs.Assembly.{result_at, needs_at}
use Rattle.ip_bpf.specs.Machine.{number_at}
use Rattle.ip_bpf.specs.declared.instruction.Instruction.{Instruction}
use Rattle.ip_bpf.specs.declared.instruction.Width.TheVariants as width
use Rattle.ip_bpf.specs.declared.machine.Machine.{Machine}

-- the code returns r on the packet
abbrev pub Returns : List Instruction → ℕ → List ℕ → ℕ → Type 0
Returns code label packet r = (m : Machine) → result_at code label packet m ≡ Some r

-- the code needs no word of the memory
abbrev pub NeedsNothing : List Instruction → ℕ → Type 0
NeedsNothing code label = (k : ℕ) → needs_at k code label ≡ false

-- each of the packet's numbers is a byte
abbrev pub HasBytes : List ℕ → Type 0
HasBytes packet = (i : ℕ) → slice_index packet i < 256

-- the number of 4 bytes at an offset, and that of 16
abbrev pub word_at : List ℕ → ℕ → ℕ
word_at packet offset = number_at packet offset width.Word

abbrev pub address_at : List ℕ → ℕ → ℕ
address_at packet offset =
    ((word_at packet offset * 2 ^ 32 + word_at packet (offset + 4)) * 2 ^ 32 + word_at packet (offset + 8)) * 2 ^ 32
    + word_at packet (offset + 12)
