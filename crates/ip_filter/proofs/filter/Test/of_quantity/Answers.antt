use Rattle.ip_filter.proofs.TestLemmas.{by_quantity}
use Rattle.ip_filter.proofs.filter.Test.of_quantity.Goals as goal

pub returns-clause-meets : goal.returns-clause-meets
returns-clause-meets c = λ p. by_quantity _ c.args.quantity c.quantity_kind.ensures.meets (record c.of_number.result { comparison = c.comparison_code.result }) c.args.comparison c.args.number p c.of_number.ensures.kind c.comparison_code.ensures c.of_number.ensures.number
