use Rattle.ip_spec.proofs.Common.{◌∙◌, ap, sym}
use Rattle.std.specs.List.{list_any}
use Rattle.ip_ext_slices.specs.Longest.{longest_chain}
use Rattle.ip_dissect.specs.Dissection.{dissected}
use Rattle.ip_filter.specs.HeaderConditions.{meets_condition}
use Rattle.ip_filter.proofs.FactsLemmas.{headers_again, none_meets}
use Rattle.ip_filter.proofs.facts.Facts.has_header.Goals as goal

pub returns-then-has_one_of : goal.returns-then-has_one_of
returns-then-has_one_of c =
    c.any_header.ensures
    ∙ ap (list_any (meets_condition c.args.condition)) (ap (λ n. longest_chain n c.extensions.result.now) c.first_number.ensures ∙ ap (longest_chain _) c.extensions.ensures ∙ headers_again _ _ c.args.self.now.packet.base_is)

pub returns-else-has_one_of : goal.returns-else-has_one_of
returns-else-has_one_of c =
    let bytes = c.args.self.now.packet.bytes.now in
    c.if-has_one_of.false ∙ none_meets c.args.condition (dissected bytes).headers (sym c.if-has_one_of.false ∙ c.has_one_of.ensures ∙ c.mask.ensures bytes)
