use Rattle.std.proofs.Common.{rules}
use Rattle.ip_batches.proofs.SumLemmas.{lists_stay}
use Rattle.ip_batches.proofs.count.add_no_lists.Goals as goal

pub returns : goal.returns
returns c = lists_stay c.args.statistics.now (c.add_zeros.ensures 17 (search rules)) (c.add_zeros-2.ensures 73 (search rules)) (c.add_zeros-3.ensures 256 (search rules)) (c.add_zeros-4.ensures 256 (search rules)) (c.add_zeros-5.ensures 256 (search rules)) (c.add_zeros-6.ensures 16 (search rules)) (c.add_zeros-7.ensures 128 (search rules))
