use Rattle.ip_filter.proofs.FlagLemmas.{flag_set}
use Rattle.ip_filter.proofs.flags.Flags.with.Goals as goal

pub returns : goal.returns
returns c = λ n less. flag_set c.args.self.bits c.args.place n c.from.result c.args.is_set c.requires c.from.ensures
