use Rattle.std.proofs.Common.{sym}
use Rattle.ip_lists.proofs.Paths.{lacks_alone}
use Rattle.ip_lists.proofs.ListLemmas.{lists_apart}
use Rattle.ip_lists.proofs.list_laws.lists_are_apart.Goals as goal

pub returns : goal.returns
returns c = record { heads = lists_apart; alone = λ next previous h p xs list alone other. lacks_alone next h p h xs alone.0 (λ e. other (sym e)) list }
