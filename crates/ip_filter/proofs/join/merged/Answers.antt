use Rattle.std.proofs.Common.{rules, refl}
use Rattle.ip_filter.proofs.JoinLemmas.{merged_leads}
use Rattle.ip_filter.proofs.join.merged.Goals as goal

pub returns : goal.returns
returns c = λ frame. merged_leads c.args.first.now c.args.second.now _ c.args.decided (search rules) (search rules) (search rules) (search rules) (λ e. search (rules, e)) refl frame
