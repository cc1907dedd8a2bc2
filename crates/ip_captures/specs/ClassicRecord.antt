-- The records of a classic capture file (draft-ietf-opsawg-pcap, section 5).
use Rattle.std.specs.Prelude.{◌≡◌, ◌≤◌, ℕ, ◌+◌, ◌*◌, List, length, drop, Option, Some, None, ◌&&◌, nat_le, if◌then◌else◌}
use Rattle.std.specs.List.{concat}
use Rattle.ip_captures.specs.Numbers.{number_at}
use Rattle.ip_captures.specs.Frame.{FrameContents}
use Rattle.ip_captures.specs.Pieces.{AreLongest, pieces_in}
use Rattle.ip_captures.specs.declared.classic_header.Variant.{Variant}
use Rattle.ip_captures.specs.declared.classic_header.Variant.TheVariants.{Microseconds, Nanoseconds, Modified}
use Rattle.ip_captures.specs.declared.classic_header.ClassicHeader.{ClassicHeader}

-- the length of a record's header
abbrev pub header_len : Variant → ℕ
header_len Microseconds = 16
header_len Nanoseconds = 16
header_len Modified = 24

-- how many nanoseconds the second number of a record counts in
abbrev pub nanoseconds : Variant → ℕ
nanoseconds Microseconds = 1000
nanoseconds Nanoseconds = 1
nanoseconds Modified = 1000

-- the fields of a record's header: the time in seconds and the rest of it, the captured length and the original length
abbrev pub seconds : ClassicHeader → List ℕ → ℕ
seconds h r = number_at h.byte_order r 0

abbrev pub fraction : ClassicHeader → List ℕ → ℕ
fraction h r = number_at h.byte_order r 4

abbrev pub captured_len : ClassicHeader → List ℕ → ℕ
captured_len h r = number_at h.byte_order r 8

abbrev pub original_len : ClassicHeader → List ℕ → ℕ
original_len h r = number_at h.byte_order r 12

-- the length that a record's header states
abbrev pub record_len : ClassicHeader → List ℕ → ℕ
record_len h r = header_len h.variant + captured_len h r

-- The bytes r are one record, of at most `limit` captured bytes: its header, and as many bytes as that states.
pub record IsRecord (limit : ℕ) (h : ClassicHeader) (r : List ℕ) : Type 0 where
  pub header : header_len h.variant ≤ length r
  pub len : length r ≡ record_len h r
  pub short : captured_len h r ≤ limit

-- The frame of a record.
abbrev pub frame_in : ClassicHeader → List ℕ → FrameContents
frame_in h r = record {
  captured = drop (header_len h.variant) r;
  original_len = original_len h r;
  time = Some (seconds h r * 1000000000 + fraction h r * nanoseconds h.variant);
  interface = 0;
  link_type = h.link_type;
  record_len = length r;
}

-- a file's header holds for each of its records
abbrev pub same_header : ClassicHeader → List ℕ → ClassicHeader
same_header h r = h

-- The longest list of records that begins the bytes s, and the rest.
abbrev pub AreLongestRecords : ℕ → ClassicHeader → List ℕ → List (List ℕ) → List ℕ → Type 0
AreLongestRecords limit = AreLongest (IsRecord limit) same_header

-- the length of the record that begins the bytes, if one does
abbrev pub first_len : ℕ → ClassicHeader → List ℕ → Option ℕ
first_len limit h s =
    if nat_le (header_len h.variant) (length s) && nat_le (captured_len h s) limit && nat_le (record_len h s) (length s) then Some (record_len h s)
    else None

-- the records that begin the bytes
abbrev pub records_in : ℕ → ClassicHeader → List ℕ → List (List ℕ)
records_in limit = pieces_in (first_len limit) same_header

-- what is left of the bytes after them
abbrev pub rest_of : ℕ → ClassicHeader → List ℕ → List ℕ
rest_of limit h s = drop (length (concat (records_in limit h s))) s
