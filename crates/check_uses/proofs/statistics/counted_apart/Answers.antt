use Rattle.std.proofs.Common.{[], ◌∷◌}
use Rattle.check_uses.proofs.statistics.counted_apart.Goals as goal

pub returns : goal.returns
returns c = c.merge.ensures.packets (c.args.first.now ∷ []) (c.args.second.now ∷ []) (c.count_packet.ensures.packets [] c.new-statistics.ensures) (c.count_packet-2.ensures.packets [] c.new-others.ensures)
