use Rattle.ip_statistics.proofs.LengthLemmas.{one_index, quarter, power}
use Rattle.ip_statistics.proofs.lengths.length_index.Goals as goal

pub returns-then-len-lt256-clause-length : goal.returns-then-len-lt256-clause-length
returns-then-len-lt256-clause-length c = let q = quarter c.args.len c.if-len-lt256.true in one_index _ _ q.0 q.1 q.2

pub returns-clause-length : goal.returns-clause-length
returns-clause-length c = let p = power c.args.len c.ilog2.result c.min.result c.if-len-lt256.false c.ilog2.ensures.power_le c.ilog2.ensures.next_power_gt c.min.ensures in one_index _ _ p.0 p.1 p.2
