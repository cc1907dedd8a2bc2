use Rattle.ip_spec.proofs.Common.{rules}
use Rattle.ip_filter.proofs.FlagLemmas.{some_flag}
use Rattle.ip_filter.proofs.flags.Flags.has_one_of.Goals as goal

pub returns : goal.returns
returns c = λ p are. some_flag p c.args.self.now.bits c.args.mask are (search rules)
