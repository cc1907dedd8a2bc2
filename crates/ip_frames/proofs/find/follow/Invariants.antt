use Rattle.std.proofs.Common.{◌-◌, length}
use Rattle.ip_frames.proofs.HeadersLemmas.{IsReached}
use Rattle.ip_frames.proofs.find.follow.Given as goal

abbrev pub invariant-headers : goal.invariant-headers
invariant-headers l = IsReached l.fn.first l.fn.before l.bytes l.announced l.offset l.number l.vlans

abbrev pub decreases-headers : goal.decreases-headers
decreases-headers l = length l.bytes - l.offset
