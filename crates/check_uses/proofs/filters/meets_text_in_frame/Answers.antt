use Rattle.std.proofs.Common.{Some}
use Rattle.ip_spec.proofs.Common.{◌∙◌}
use Rattle.check_uses.proofs.filters.meets_text_in_frame.Goals as goal

pub returns-in-Ok : goal.returns-in-Ok
returns-in-Ok c =
    let p = c.in-Ok.ensures.ok in (
      p.written,
      p.filter,
      p.words_of,
      c.matches_frame.ensures ∙ p.framed c.args.frame.now (Some c.args.packet.now),
    )
