use Rattle.ip_spec.proofs.Common.{◌∙◌, ap, sym}
use Rattle.std.specs.List.{list_any}
use Rattle.ip_ext_slices.specs.Longest.{longest_chain}
use Rattle.ip_dissect.specs.Dissection.{dissected}
use Rattle.ip_filter.specs.HeaderFields.{has_option}
use Rattle.ip_filter.proofs.FactsLemmas.{headers_again, no_options}
use Rattle.ip_filter.proofs.MaskLemmas.{options_mask}
use Rattle.ip_filter.proofs.facts.Facts.option_types.Goals as goal

pub returns-then-has_one_of : goal.returns-then-has_one_of
returns-then-has_one_of c = λ n.
    c.of_headers.ensures n
    ∙ ap (list_any (has_option n)) (ap (λ k. longest_chain k c.extensions.result.now) c.first_number.ensures ∙ ap (longest_chain _) c.extensions.ensures ∙ headers_again _ _ c.args.self.now.packet.base_is)

pub returns-else-has_one_of : goal.returns-else-has_one_of
returns-else-has_one_of c = λ n.
    let bytes = c.args.self.now.packet.bytes.now in
    c.none.ensures n ∙ no_options n (dissected bytes).headers (sym c.if-has_one_of.false ∙ c.has_one_of.ensures ∙ options_mask bytes)
