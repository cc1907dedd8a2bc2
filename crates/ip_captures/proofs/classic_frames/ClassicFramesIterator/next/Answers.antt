use Rattle.std.proofs.Common.{length, arith, ap, ◌∙◌, ◌≡◌, ◌∷◌, map}
use Rattle.ip_captures.specs.ClassicFrames.{frames_left}
use Rattle.ip_captures.specs.ClassicRecord.{frame_in, records_in}
use Rattle.ip_captures.specs.Frame.{contents}
use Rattle.ip_captures.proofs.RecordLemmas.{goes_on}
use Rattle.ip_captures.proofs.classic_frames.ClassicFramesIterator.next.Goals as goal

pub invariant_of-self : goal.invariant_of-self
invariant_of-self c =
    let it = c.args.self.now in
    let on = goes_on it.capture.limit it.capture.header it.rest.now c.in-Frame.frame _ c.in-Frame.ensures c.split_at.ensures.back in
    record { within = omega (arith, on.shorter, it.within); after = on.rest ∙ it.after }

pub returns-clause-steps : goal.returns-clause-steps
returns-clause-steps c = (goes_on c.args.self.now.capture.limit c.args.self.now.capture.header c.args.self.now.rest.now c.in-Frame.frame _ c.in-Frame.ensures c.split_at.ensures.back).frames

pub returns-clause-goes : goal.returns-clause-goes
returns-clause-goes c =
    let it = c.args.self.now in
    let fewer : length (frames_left it) ≡ length (contents c.in-Frame.frame ∷ map (frame_in it.capture.header) (records_in it.capture.limit it.capture.header c.split_at.result.1.now)) = ap length (returns-clause-steps c) in
    record { on = λ _. (tt, tt, omega arith); keeps = tt; rests = λ _. tt }
