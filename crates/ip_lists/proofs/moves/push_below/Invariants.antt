use Rattle.std.proofs.Common.{◌≡◌, length}
use Rattle.ip_lists.proofs.Ranges.{IsPushed}
use Rattle.ip_lists.proofs.moves.push_below.Given as goal

abbrev pub invariant-loop-place : goal.invariant-loop-place
invariant-loop-place l = (length l.links.next.now ≡ length l.fn.links.next.now) × IsPushed l.links.next.now l.links.previous.now l.head l.place
