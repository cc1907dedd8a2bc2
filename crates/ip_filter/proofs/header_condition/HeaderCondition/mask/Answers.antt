use Rattle.ip_spec.proofs.Common.{◌∙◌, ap, sym, rules, list_any}
use Rattle.ip_spec.specs.Numbers.{ROUTING, FRAGMENT, AUTHENTICATION}
use Rattle.ip_dissect.specs.Dissection.{dissected}
use Rattle.ip_filter.specs.HeaderConditions.{is_asked}
use Rattle.ip_filter.proofs.MaskLemmas.{header_mask}
use Rattle.ip_filter.proofs.header_condition.HeaderCondition.mask.Goals as goal

pub returns-in-SecurityParameters : goal.returns-in-SecurityParameters
returns-in-SecurityParameters c = λ s. header_mask s AUTHENTICATION (search rules) ∙ ap (λ x. list_any (λ h. is_asked x h.number) (dissected s).headers) (sym c.in-SecurityParameters.is)

pub returns-in-RoutingType : goal.returns-in-RoutingType
returns-in-RoutingType c = λ s. header_mask s ROUTING (search rules) ∙ ap (λ x. list_any (λ h. is_asked x h.number) (dissected s).headers) (sym c.in-RoutingType.is)

pub returns-in-SegmentsLeft : goal.returns-in-SegmentsLeft
returns-in-SegmentsLeft c = λ s. header_mask s ROUTING (search rules) ∙ ap (λ x. list_any (λ h. is_asked x h.number) (dissected s).headers) (sym c.in-SegmentsLeft.is)

pub returns-in-Identification : goal.returns-in-Identification
returns-in-Identification c = λ s. header_mask s FRAGMENT (search rules) ∙ ap (λ x. list_any (λ h. is_asked x h.number) (dissected s).headers) (sym c.in-Identification.is)
