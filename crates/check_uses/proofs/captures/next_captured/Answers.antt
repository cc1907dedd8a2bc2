use Rattle.std.proofs.Common.{ap}
use Rattle.ip_captures.specs.Frame.{FrameContents}
use Rattle.check_uses.proofs.captures.next_captured.Goals as goal

pub returns-in-Frame : goal.returns-in-Frame
returns-in-Frame c = (c.in-Frame.frame.record_len, c.in-Frame.ensures.next.1, ap (λ (x : FrameContents). x.captured) c.in-Frame.ensures.next.2)
