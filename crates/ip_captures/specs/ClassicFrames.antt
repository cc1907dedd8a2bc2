-- The frames of the records that begin some bytes, as they are walked.
use Rattle.std.specs.Prelude.{ℕ, List, map}
use Rattle.ip_captures.specs.Frame.{FrameContents}
use Rattle.ip_captures.specs.ClassicRecord.{frame_in, records_in}
use Rattle.ip_captures.specs.declared.classic_capture.ClassicCapture.{ClassicCapture}
use Rattle.ip_captures.specs.declared.classic_frames.ClassicFrames.{ClassicFrames}

-- the reader and the bytes that it was made with
abbrev pub capture : ClassicFrames → ClassicCapture
capture it = it.capture

abbrev pub input : ClassicFrames → List ℕ
input it = it.bytes.now

-- the bytes after the last frame returned
abbrev pub bytes_left : ClassicFrames → List ℕ
bytes_left it = it.rest.now

-- the frames that it has still to return
abbrev pub frames_left : ClassicFrames → List FrameContents
frames_left it = map (frame_in it.capture.header) (records_in it.capture.limit it.capture.header it.rest.now)
