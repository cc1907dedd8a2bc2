use Rattle.std.proofs.Common.{rules, ap, ◌∙◌}
use Rattle.ip_dissect.specs.Dissection.{dissected}
use Rattle.ip_filter.specs.Truth.{is_version}
use Rattle.ip_filter.proofs.MaskLemmas.{ipv4_mask, ipv6_mask, other_version}
use Rattle.ip_filter.proofs.test_of.version_mask.Goals as goal

pub returns-in-4 : goal.returns-in-4
returns-in-4 c = λ s. ipv4_mask s ∙ ap (λ v. is_version v (dissected s)) (search rules)

pub returns-in-6 : goal.returns-in-6
returns-in-6 c = λ s. ipv6_mask s ∙ ap (λ v. is_version v (dissected s)) (search rules)

pub returns-in_default : goal.returns-in_default
returns-in_default c = λ s. other_version s c.args.version (λ e. search (rules, e)) (λ e. search (rules, e))
