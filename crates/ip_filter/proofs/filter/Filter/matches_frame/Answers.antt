use Rattle.std.proofs.Common.{Some}
use Rattle.ip_spec.proofs.Common.{sym, ap, ◌∙◌}
use Rattle.ip_filter.specs.Frames.{meets_in}
use Rattle.ip_filter.specs.Program.{passes}
use Rattle.ip_filter.proofs.FrameLemmas.{passes_by_packet}
use Rattle.ip_filter.proofs.filter.Filter.matches_frame.Goals as goal

pub returns-else-asks_frames : goal.returns-else-asks_frames
returns-else-asks_frames c =
    c.run_on.ensures
    ∙ passes_by_packet c.args.frame.now c.args.packet.now c.used_tests-tests.result.now (sym c.asks_frames.ensures ∙ c.if-asks_frames.false)
    ∙ ap (λ xs. passes xs (meets_in c.args.frame.now (Some c.args.packet.now))) c.used_tests-tests.ensures.tests
