use Rattle.std.proofs.Common.{inl}
use Rattle.ip_spec.proofs.Common.{ap, ◌∙◌}
use Rattle.ip_header_contents.specs.Options.{options_in}
use Rattle.ip_header_contents.proofs.OptionLemmas.{has_first}
use Rattle.ip_header_contents.proofs.header_options.HeaderOptions.malformed.Goals as goal

pub returns-in-Some-clause-none : goal.returns-in-Some-clause-none
returns-in-Some-clause-none c = inl (λ none. has_first _ _ c.in-Some.ensures.some (ap options_in c.left-left.ensures ∙ none))
