use Rattle.ip_spec.proofs.Common.{ap, ◌∙◌}
use Rattle.ip_dissect.specs.Dissection.{dissected}
use Rattle.ip_filter.specs.Tests.{meets}
use Rattle.ip_filter.specs.Program.{passes}
use Rattle.ip_filter.proofs.run.run_all.Goals as goal

pub returns-in-Plain : goal.returns-in-Plain
returns-in-Plain c = c.run_plain.ensures ∙ ap (λ s. passes c.args.tests.now (λ x. meets x (dissected s))) (c.in-Plain.ensures).1
