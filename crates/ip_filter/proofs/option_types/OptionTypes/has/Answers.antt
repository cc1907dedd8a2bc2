use Rattle.std.proofs.Common.{arith}
use Rattle.ip_filter.proofs.OptionTypeLemmas.{asked}
use Rattle.ip_filter.proofs.option_types.OptionTypes.has.Goals as goal

pub returns : goal.returns
returns c = asked _ c.args.option_type (omega (arith, c.if-option_type-gt255.false))
