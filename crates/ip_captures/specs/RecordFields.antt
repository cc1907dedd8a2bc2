-- What comes next as plain numbers.
use Rattle.std.specs.Prelude.{◌≡◌, ◌≤◌, ℕ, ◌+◌, List, length, slice_range, is_some, unwrap_or, if◌then◌else◌, ⊤}
use Rattle.ip_captures.specs.ErrorFields.{no_error, error_fields}
use Rattle.ip_captures.specs.declared.error_fields.CaptureErrorFields.{CaptureErrorFields}
use Rattle.ip_captures.specs.declared.record_fields.RecordFields.{RecordFields}
use Rattle.ip_captures.specs.declared.frame.Frame.{Frame}
use Rattle.ip_captures.specs.declared.next.Next.{Next}
use Rattle.ip_captures.specs.declared.next.Next.TheVariants as next

-- the fields of no record
abbrev pub no_record : ℕ → ℕ → CaptureErrorFields → RecordFields
no_record kind needed error = record {
  offset = 0;
  len = 0;
  record_len = 0;
  needed = needed;
  time = 0;
  error = error;
  original_len = 0;
  interface = 0;
  block_type = 0;
  link_type = 0;
  has_time = 0;
  kind = kind;
}

-- the fields of a frame whose captured bytes begin at an offset
abbrev pub frame_fields : ℕ → Frame → RecordFields
frame_fields offset f = record {
  offset = offset;
  len = length f.captured.now;
  record_len = f.record_len;
  needed = 0;
  time = unwrap_or f.time 0;
  error = no_error;
  original_len = f.original_len;
  interface = f.interface;
  block_type = 0;
  link_type = f.link_type;
  has_time = if is_some f.time then 1 else 0;
  kind = 0;
}

-- what comes next, where the captured bytes of a frame begin at an offset: the body of another block begins after its type and
-- its total length
abbrev pub record_fields : ℕ → Next → RecordFields
record_fields offset (next.Frame f) = frame_fields offset f
record_fields offset (next.Block b) = record (no_record 1 0 no_error) { offset = 8; len = length b.body.now; record_len = b.record_len; block_type = b.block_type }
record_fields offset (next.Needs n) = no_record 2 n no_error
record_fields offset next.Ended = no_record 3 0 no_error
record_fields offset (next.Error e) = no_record 4 0 (error_fields e)

-- The captured bytes of a frame are those at an offset of its record or block.
abbrev pub AreCapturedAt : List ℕ → ℕ → Next → Type 0
AreCapturedAt s offset (next.Frame f) = (offset + length f.captured.now ≤ f.record_len) × (slice_range s offset (offset + length f.captured.now) ≡ f.captured.now)
AreCapturedAt s offset (next.Block b) = ⊤
AreCapturedAt s offset (next.Needs n) = ⊤
AreCapturedAt s offset next.Ended = ⊤
AreCapturedAt s offset (next.Error e) = ⊤

-- The fields of what comes next, where the bytes s are left.
pub record IsRecordOf (s : List ℕ) (x : Next) (r : RecordFields) : Type 0 where
  pub offset : ℕ
  pub fields : r ≡ record_fields offset x
  pub captured : AreCapturedAt s offset x
