-- What the rest of a frame begins with: a whole header, or the end of the headers.
use Rattle.std.specs.Prelude.{ℕ, ◌+◌, List, length, Option, Some, None, Bool, not, ◌==◌, nat_le, bit_and, slice_index, slice_range, if◌then◌else◌}
use Rattle.std.specs.Int.{from_be_bytes, w16}
use Rattle.ip_frames.specs.Numbers.{after_ethertype}
use Rattle.ip_frames.specs.declared.protocol_number.ProtocolNumber.{ProtocolNumber}
use Rattle.ip_frames.specs.declared.protocol_number.ProtocolNumber.TheVariants.{EtherType}
use Rattle.ip_frames.specs.declared.frame_contents.FrameEnd.TheVariants.{NotIp, Truncated}
use Rattle.ip_frames.specs.declared.header.HeaderKind.{HeaderKind}
use Rattle.ip_frames.specs.declared.header.Announced.{Announced}
use Rattle.ip_frames.specs.declared.header.HeaderReading.{HeaderReading}
use Rattle.ip_frames.specs.declared.header.HeaderReading.TheVariants.{Whole, End}

-- the number in two bytes from index i on
abbrev pub word_at : List ℕ → ℕ → ℕ
word_at b i = from_be_bytes w16 (slice_range b i (i + 2))

-- byte i has one of these bits
abbrev pub has_bits : List ℕ → ℕ → ℕ → Bool
has_bits b i bits = not (bit_and (slice_index b i) bits == 0)

-- a header of n bytes, with its number and what it announces
abbrev pub header : HeaderKind → ℕ → Option ProtocolNumber → Announced → HeaderReading
header k n number what = Whole (record { kind = k; len = n; number = number; vlan = None; announced = what })

-- a header of n bytes with an EtherType
abbrev pub typed : HeaderKind → ℕ → ℕ → HeaderReading
typed k n number = header k n (Some (EtherType number)) (after_ethertype number)

-- the headers end at one that needs n bytes
abbrev pub truncated : ℕ → HeaderReading
truncated n = End (Truncated n) None

-- the headers end at something else than IP
abbrev pub not_ip : HeaderReading
not_ip = End NotIp None

-- what is read of n bytes, if they are there
abbrev pub of_bytes : ℕ → List ℕ → HeaderReading → HeaderReading
of_bytes n b r = if nat_le n (length b) then r else truncated n
