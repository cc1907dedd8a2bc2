use Rattle.ip_captures.proofs.RecordLemmas.{records_longest}
use Rattle.ip_captures.proofs.classic_capture.ClassicCapture.frames.Goals as goal

pub returns-clause-longest : goal.returns-clause-longest
returns-clause-longest c = records_longest c.args.self.now.limit c.args.self.now.header c.args.bytes.now
