use Rattle.std.proofs.Common.{arith, ◌+◌, ◌≡◌}
use Rattle.ip_captures.specs.ClassicRecord.{record_len}
use Rattle.ip_captures.proofs.RecordLemmas.{frame_of_first}
use Rattle.ip_captures.proofs.classic_capture.ClassicCapture.next.Goals as goal

pub returns-clause-next : goal.returns-clause-next
returns-clause-next c =
    let it = c.args.self.now in
    let k = c.record_header_len-header_len.result + c.u32_at-captured_len.result in
    let len : k ≡ record_len it.header c.args.bytes.now = cc in
    frame_of_first it.limit it.header c.args.bytes.now k c.frame-frame.result len (omega arith) (omega arith) c.frame-frame.ensures
