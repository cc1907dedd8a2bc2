use Rattle.std.proofs.Common.{rules}
use Rattle.ip_key_counts.specs.Table.{counts_in, room_of}
use Rattle.ip_chain_counts.proofs.ChainLemmas.{one_more}
use Rattle.ip_chain_counts.proofs.count.count_chain.Goals as goal

pub returns-clause-counts : goal.returns-clause-counts
returns-clause-counts c = search rules

pub returns-clause-packets : goal.returns-clause-packets
returns-clause-packets c = λ d xs table before.
    one_more (room_of c.args.counts.now) d (counts_in c.args.counts.now) _ c.args.path.now c.args.bytes.now xs (returns-clause-counts c table) before
