-- What the fields of a reassembly say.
use Rattle.std.specs.Prelude.{◌≡◌, ℕ, ◌+◌, ◌*◌, ◌%◌, ◌<◌, ◌≤◌, ◌==◌, not, max, min, length, slice_index, Bool, false, List, [], ◌∷◌, Some, if◌then◌else◌}
use Rattle.std.specs.List.{All, list_any}
use Rattle.ip_reassembly.specs.Fragment.{Fragment, end_of, is_in, overlaps, has_two_ends, is_unaligned}
use Rattle.ip_reassembly.specs.Payload.{byte_at}
use Rattle.ip_reassembly.specs.Received.{Received}
use Rattle.ip_reassembly.specs.Marks.{mark_of}
use Rattle.ip_reassembly.specs.Run.{run_end, mark_by}
use Rattle.ip_reassembly.specs.declared.run.Run.{Run}
use Rattle.ip_reassembly.specs.declared.state.ReassemblyState.{ReassemblyState}
use Rattle.ip_reassembly.specs.declared.reassembly.Reassembly.{Reassembly}

-- the largest length of an IP payload
abbrev pub MAX_PAYLOAD : ℕ
MAX_PAYLOAD = 65535

-- the mark of the first unit of a fragment
abbrev pub first_mark : Bool → ℕ
first_mark more = if more then 1 else 2

-- the mark of a unit of 8 bytes in a fragment
abbrev pub mark_in : Fragment → ℕ → ℕ
mark_in f i = if 8 * i == f.offset then first_mark f.more else 3

-- the mark of a unit: 0 if its first byte is in no fragment
abbrev pub mark_at : List Fragment → ℕ → ℕ
mark_at [] i = 0
mark_at (f ∷ fs) i = if is_in f (8 * i) then mark_in f i else mark_at fs i

-- the largest end of a fragment
abbrev pub reach_of : List Fragment → ℕ
reach_of [] = 0
reach_of (f ∷ fs) = max (end_of f) (reach_of fs)

-- A last fragment is there.
abbrev pub is_ended : List Fragment → Bool
is_ended fs = list_any (λ f. not f.more) fs

-- the number of bytes in the fragments
abbrev pub count_of : List Fragment → ℕ
count_of [] = 0
count_of (f ∷ fs) = length f.bytes + count_of fs

-- The fragment isn't refused by itself.
pub record IsSound (limit : ℕ) (f : Fragment) : Type 0 where
  pub offset : f.offset % 8 ≡ 0
  pub aligned : is_unaligned f ≡ false
  pub within : end_of f ≤ limit

-- Each fragment is sound, and contradicts none before it.
abbrev pub AreConsistent : ℕ → List Fragment → Type 0
AreConsistent limit [] = Unit {0}
AreConsistent limit (f ∷ fs) = IsSound limit f × (list_any (overlaps f) fs ≡ false)
    × (list_any (has_two_ends f) fs ≡ false) × AreConsistent limit fs

-- A flag is set.
abbrev pub is_set : ℕ → Bool
is_set n = not (n == 0)

-- what a state and its buffer hold
pub record Fields : Type 0 where
  pub buffer : List ℕ
  pub run : Run
  pub marks : List ℕ
  pub reach : ℕ
  pub count : ℕ
  pub is_ended : Bool
  pub is_abandoned : Bool
  pub abandons : Bool

abbrev pub state_fields : ReassemblyState → List ℕ → Fields
state_fields r buffer = record {
  buffer = buffer;
  run = r.run;
  marks = r.marks;
  reach = r.reach;
  count = r.count;
  is_ended = is_set r.ended;
  is_abandoned = is_set r.abandoned;
  abandons = not (is_set r.kept);
}

-- The fields say that this has been received.
pub record AreReceived (r : Fields) (s : Received) : Type 0 where
  pub limit : s.limit ≡ min (length r.buffer) MAX_PAYLOAD
  pub abandons : r.abandons ≡ s.abandons
  pub abandoned : r.is_abandoned ≡ s.abandoned
  pub consistent : AreConsistent s.limit s.fragments
  pub marks : (i : ℕ) → mark_by r.run r.marks i ≡ mark_at s.fragments i
  pub unused : (i : ℕ) → i < run_end r.run → mark_of r.marks i ≡ 0
  pub bytes : (i byte : ℕ) → byte_at s.fragments i ≡ Some byte → slice_index r.buffer i ≡ byte
  pub reach : r.reach ≡ reach_of s.fragments
  pub ended : r.is_ended ≡ is_ended s.fragments
  pub count : r.count ≡ count_of s.fragments

-- By the state, with its buffer, this has arrived.
abbrev pub HasArrived : ReassemblyState → List ℕ → Received → Type 0
HasArrived r buffer s = AreReceived (state_fields r buffer) s

-- The reassembly has received this.
abbrev pub HasReceived : Reassembly → Received → Type 0
HasReceived r s = HasArrived r.state r.buffer.now s

-- the bytes of its buffer
abbrev pub buffer_of : Reassembly → List ℕ
buffer_of r = r.buffer.now

-- These are n zeros.
abbrev pub AreZeros : ℕ → List ℕ → Type 0
AreZeros n bytes = (length bytes ≡ n) × All (λ byte. byte ≡ 0) bytes

-- All numbers of the state are 0, as in memory whose bytes are 0.
pub record IsZero (r : ReassemblyState) : Type 0 where
  pub marks : AreZeros 2048 r.marks
  pub reach : r.reach ≡ 0
  pub count : r.count ≡ 0
  pub ended : r.ended ≡ 0
  pub abandoned : r.abandoned ≡ 0
  pub kept : r.kept ≡ 0
  pub units : r.run.units ≡ 0
  pub fragments : r.run.count ≡ 0

-- The fragment can be stored: nothing speaks against it.
pub record IsNew (s : Received) (f : Fragment) : Type 0 where
  pub sound : IsSound s.limit f
  pub apart : list_any (overlaps f) s.fragments ≡ false
  pub one_end : list_any (has_two_ends f) s.fragments ≡ false
