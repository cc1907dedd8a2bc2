use Rattle.std.proofs.Common.{refl, sym, subst, ◌∙◌, ◌-◌, List, ℕ, length}
use Rattle.ip_captures.specs.ClassicNext.{reader_at}
use Rattle.ip_captures.specs.ClassicRecord.{AreLongestRecords, records_in}
use Rattle.ip_captures.proofs.RecordLemmas.{goes_on, goes_on-some, stays, records_longest}
use Rattle.ip_captures.proofs.classic_frames.ClassicFrames.end.Goals as goal

pub returns-in-Frame-clause-before : goal.returns-in-Frame-clause-before
returns-in-Frame-clause-before c =
    let it = c.args.self.now in
    goes_on-some it.capture.limit it.capture.header it.rest.now c.in-Frame.field-0 _ (goes_on it.capture.limit it.capture.header it.rest.now c.in-Frame.field-0 _ c.in-Frame.ensures refl)

pub returns-in_default : goal.returns-in_default
returns-in_default c =
    let it = c.args.self.now in
    let stay = stays (reader_at it.capture (length it.bytes.now - length it.rest.now)) it.rest.now c.peek.result c.peek.ensures c.in_default.not-Frame in
    let records = records_in it.capture.limit it.capture.header it.bytes.now in
    record {
      before = tt;
      last = stay.frames;
      rest = subst (λ (r : List ℕ). AreLongestRecords it.capture.limit it.capture.header it.bytes.now records r) (sym it.after ∙ stay.rest) (records_longest it.capture.limit it.capture.header it.bytes.now);
      why = c.peek.ensures;
    }
