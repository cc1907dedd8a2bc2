use Rattle.ip_spec.proofs.Common.{ap, ◌∙◌}
use Rattle.ip_dissect.specs.Dissection.{dissected}
use Rattle.ip_filter.specs.Tests.{meets}
use Rattle.ip_filter.specs.Program.{tests_of, passes}
use Rattle.ipexts_c.proofs.filters.wolfaren_filter_matches.Goals as goal

pub returns : goal.returns
returns c = c.matches.ensures ∙ ap (λ b. passes (tests_of c.args.filter.now) (λ x. meets x (dissected b))) c.slice.ensures
