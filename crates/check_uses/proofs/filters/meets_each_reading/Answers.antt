use Rattle.std.proofs.Common.{Some}
use Rattle.ip_spec.proofs.Common.{sym, ap, ◌∙◌}
use Rattle.ip_filter.specs.Formula.{truth}
use Rattle.ip_filter.specs.Grammar.{formula_of}
use Rattle.ip_filter.specs.Program.{frame_holds}
use Rattle.check_uses.proofs.filters.meets_each_reading.Goals as goal

pub returns-in-Ok : goal.returns-in-Ok
returns-in-Ok c =
    let p = c.in-Ok.ensures.ok in
    λ d is same. c.matches.ensures ∙ p.formula (Some c.args.packet.now) ∙ sym (ap (λ e. truth (formula_of e) (frame_holds (Some c.args.packet.now))) (p.only d is same))
