-- What a record of a classic file keeps of a frame.
use Rattle.std.specs.Prelude.{◌≢◌, ◌<◌, ℕ, ◌+◌, ◌*◌, ◌/◌, ◌^◌, List, length, Some}
use Rattle.ip_captures.specs.Frame.{FrameContents}
use Rattle.ip_captures.specs.ClassicRecord.{nanoseconds}
use Rattle.ip_captures.specs.declared.frame.Frame.{Frame}
use Rattle.ip_captures.specs.declared.classic_header.Variant.{Variant}
use Rattle.ip_captures.specs.declared.classic_header.Variant.TheVariants.{Modified}
use Rattle.ip_captures.specs.declared.classic_header.ClassicHeader.{ClassicHeader}

-- the time in the file's units, in nanoseconds
abbrev pub time_kept : Variant → ℕ → ℕ
time_kept v t = t / nanoseconds v * nanoseconds v

-- The file can have a frame with this time and captured bytes: it isn't of the modified format, and its numbers hold the seconds
-- and the captured length.
pub record CanHave (h : ClassicHeader) (t : ℕ) (captured : List ℕ) : Type 0 where
  pub variant : h.variant ≢ Modified
  pub seconds : t / 1000000000 < 2 ^ 32
  pub captured_len : length captured < 2 ^ 32

-- what is read again of a frame that was written with this time
abbrev pub kept : ClassicHeader → Frame → ℕ → FrameContents
kept h f t = record {
  captured = f.captured.now;
  original_len = f.original_len;
  time = Some (time_kept h.variant t);
  interface = 0;
  link_type = h.link_type;
  record_len = 16 + length f.captured.now;
}
