-- Statistics of a capture: of its packets, and of what its frames say besides.
use Rattle.std.specs.Prelude.{ℕ, Bool, ◌==◌, ◌&&◌}
use Rattle.ip_statistics.specs.Counts.{added}
use Rattle.ip_statistics.specs.Statistics.{nothing, merged}
use Rattle.ip_statistics.specs.declared.capture.CaptureStatistics.{CaptureStatistics}

abbrev pub VERSION : ℕ
VERSION = 1

-- the size in bytes
abbrev pub SIZE : ℕ
SIZE = 8152

-- the version and the size are these
abbrev pub is_current : CaptureStatistics → Bool
is_current a = (a.version == VERSION) && (a.size == SIZE)

-- no frames
abbrev pub no_frames : CaptureStatistics
no_frames = record {
  version = VERSION;
  size = SIZE;
  other_frames = 0;
  truncated_frames = 0;
  packets = nothing;
}

-- the sums, with the version and the size of the first one
abbrev pub captures_merged : CaptureStatistics → CaptureStatistics → CaptureStatistics
captures_merged a b = record {
  version = a.version;
  size = a.size;
  other_frames = added a.other_frames b.other_frames;
  truncated_frames = added a.truncated_frames b.truncated_frames;
  packets = merged a.packets b.packets;
}
