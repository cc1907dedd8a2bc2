use Rattle.ip_spec.proofs.Common.{ap, ◌∙◌}
use Rattle.ip_dissect.specs.Dissection.{dissected}
use Rattle.ip_filter.specs.Tests.{meets}
use Rattle.ip_filter.specs.Program.{passes}
use Rattle.ip_filter.proofs.filter.Filter.matches.Goals as goal

pub returns : goal.returns
returns c = c.run_on.ensures ∙ ap (λ xs. passes xs (λ x. meets x (dissected c.args.bytes.now))) c.used_tests.ensures.tests
