use Rattle.std.proofs.Common.{rules}
use Rattle.ip_filter.proofs.MaskLemmas.{header_mask, other_header}
use Rattle.ip_filter.proofs.test_of.header_mask.Goals as goal

pub returns-in_default : goal.returns-in_default
returns-in_default c = λ s. other_header s c.args.number (λ is. search (rules, is))

pub returns-in-IPV6_HOP_BY_HOP : goal.returns-in-IPV6_HOP_BY_HOP
returns-in-IPV6_HOP_BY_HOP c = λ s. header_mask s c.args.number (search rules)
