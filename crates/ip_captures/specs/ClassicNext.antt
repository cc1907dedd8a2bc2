-- What comes next in a classic capture file.
use Rattle.std.specs.Prelude.{◌≡◌, ◌≢◌, ◌<◌, ◌≤◌, ℕ, ◌+◌, ◌^◌, ◌-◌, min, List, [], length, take, nat_lt, if◌then◌else◌}
use Rattle.ip_captures.specs.Frame.{contents}
use Rattle.ip_captures.specs.ClassicRecord.{IsRecord, frame_in, header_len, captured_len, record_len}
use Rattle.ip_captures.specs.declared.classic_header.ClassicHeader.{ClassicHeader}
use Rattle.ip_captures.specs.declared.classic_capture.ClassicCapture.{ClassicCapture}
use Rattle.ip_captures.specs.declared.err.CaptureError.TheVariants.{LongRecord}
use Rattle.ip_captures.specs.declared.next.Next.{Next}
use Rattle.ip_captures.specs.declared.next.Next.TheVariants as next

-- how many bytes a record that begins with s has at least: those of its header, and once these are there all
abbrev pub needed : ClassicHeader → List ℕ → ℕ
needed h s = if nat_lt (length s) (header_len h.variant) then header_len h.variant else record_len h s

-- What comes next, where the bytes s are left: the frame of the record that begins them, or why no record does.
abbrev pub IsNext : ClassicCapture → List ℕ → Next → Type 0
IsNext c s (next.Frame f) = (f.record_len ≤ length s) × IsRecord c.limit c.header (take f.record_len s)
    × (contents f ≡ frame_in c.header (take f.record_len s))
IsNext c s (next.Block b) = ⊥
IsNext c s (next.Needs n) = (s ≢ []) × (length s < n) × (n ≡ needed c.header s)
    × (header_len c.header.variant ≤ length s → captured_len c.header s ≤ c.limit)
IsNext c s next.Ended = s ≡ []
IsNext c s (next.Error e) = (header_len c.header.variant ≤ length s) × (c.limit < captured_len c.header s)
    × (e ≡ LongRecord c.offset (captured_len c.header s) c.limit)

-- the reader so many bytes further on: an offset beyond 64 bits stays at the greatest one
abbrev pub reader_at : ClassicCapture → ℕ → ClassicCapture
reader_at c n = record c { offset = min (c.offset + n) (2 ^ 64 - 1) }

-- The reader after that: a frame moves it past its record, and all else leaves it where it is.
abbrev pub reader_after : ClassicCapture → Next → ClassicCapture
reader_after c (next.Frame f) = reader_at c f.record_len
reader_after c (next.Block b) = c
reader_after c (next.Needs n) = c
reader_after c next.Ended = c
reader_after c (next.Error e) = c
