use Rattle.ip_spec.proofs.Common.{length}
use Rattle.check_reference.proofs.plain_packet.+is_fragmented.Given as goal

abbrev pub decreases-is_fragmented : goal.decreases-is_fragmented
decreases-is_fragmented l = length l.headers.now
