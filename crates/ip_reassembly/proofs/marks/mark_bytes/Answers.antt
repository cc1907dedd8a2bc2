use Rattle.ip_reassembly.proofs.ByteMarkLemmas.{filled}
use Rattle.ip_reassembly.proofs.Common.{◌/◌}
use Rattle.ip_reassembly.proofs.marks.mark_bytes.Goals as goal

pub returns-clause-marks : goal.returns-clause-marks
returns-clause-marks c = λ i. filled c.args.marks.now c.fill.new.bytes c.args.first c.args.end i (c.fill.ensures.bytes (i / 4))
