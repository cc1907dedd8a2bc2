use Rattle.std.proofs.Common.{sym, arith}
use Rattle.ip_defragmenter.proofs.HeaderLemmas.{in_short, in_long}
use Rattle.ip_defragmenter.proofs.memory.PacketMemory.headers.Goals as goal

pub returns-then-self-le-SHORT_HEAD : goal.returns-then-self-le-SHORT_HEAD
returns-then-self-le-SHORT_HEAD c = sym (in_short c.args.self.now.head_len c.args.self.now.short_head c.args.self.now.head (omega (arith, c.if-self-le-SHORT_HEAD.true)))

pub returns-else-self-le-SHORT_HEAD : goal.returns-else-self-le-SHORT_HEAD
returns-else-self-le-SHORT_HEAD c = sym (in_long c.args.self.now.head_len c.args.self.now.short_head c.args.self.now.head (omega (arith, c.if-self-le-SHORT_HEAD.false)))
