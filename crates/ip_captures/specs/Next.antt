-- What comes next in a capture.
use Rattle.std.specs.Prelude.{Option, Some, None}
use Rattle.ip_captures.specs.Frame.{FrameContents, contents}
use Rattle.ip_captures.specs.declared.err.CaptureError.{CaptureError}
use Rattle.ip_captures.specs.declared.next.Next.{Next}
use Rattle.ip_captures.specs.declared.next.Next.TheVariants as next

-- the contents of the frame, if it is a frame
abbrev pub contents_of : Next → Option FrameContents
contents_of (next.Frame f) = Some (contents f)
contents_of (next.Block b) = None
contents_of (next.Needs n) = None
contents_of next.Ended = None
contents_of (next.Error e) = None

-- the error, if it is one
abbrev pub error_of : Next → Option CaptureError
error_of (next.Frame f) = None
error_of (next.Block b) = None
error_of (next.Needs n) = None
error_of next.Ended = None
error_of (next.Error e) = Some e
