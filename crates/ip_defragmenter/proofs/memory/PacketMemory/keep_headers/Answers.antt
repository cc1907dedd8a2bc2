use Rattle.std.proofs.Common.{ap, ◌∙◌, arith, length, take, drop}
use Rattle.std.proofs.Math.Seq.{take-append_seam}
use Rattle.ip_defragmenter.proofs.HeaderLemmas.{in_short, in_long}
use Rattle.ip_defragmenter.proofs.memory.PacketMemory.keep_headers.Goals as goal

pub returns-then-headers-le-SHORT_HEAD-clause-headers : goal.returns-then-headers-le-SHORT_HEAD-clause-headers
returns-then-headers-le-SHORT_HEAD-clause-headers c =
    let n = length c.args.headers.now in
    in_short n c.put_front.new.buffer c.args.self.now.head (omega (arith, c.if-headers-le-SHORT_HEAD.true))
    ∙ (ap (take n) c.put_front.ensures ∙ take-append_seam c.args.headers.now (drop n c.args.self.now.short_head))

pub returns-else-headers-le-SHORT_HEAD-clause-headers : goal.returns-else-headers-le-SHORT_HEAD-clause-headers
returns-else-headers-le-SHORT_HEAD-clause-headers c =
    let n = length c.args.headers.now in
    in_long n c.args.self.now.short_head c.put_front-else-headers-le-SHORT_HEAD.new.buffer (omega (arith, c.if-headers-le-SHORT_HEAD.false))
    ∙ (ap (take n) c.put_front-else-headers-le-SHORT_HEAD.ensures ∙ take-append_seam c.args.headers.now (drop n c.args.self.now.head))
