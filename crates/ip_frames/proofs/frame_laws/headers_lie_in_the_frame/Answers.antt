use Rattle.ip_frames.proofs.HeadersLemmas.{headers_within}
use Rattle.ip_frames.proofs.frame_laws.headers_lie_in_the_frame.Goals as goal

pub returns : goal.returns
returns c = headers_within
