use Rattle.ip_spec.proofs.Common.{◌∙◌, ◌==◌, ap, sym, arith, option_map_or, false}
use Rattle.ip_dissect.specs.declared.fragment.Fragment.{Fragment}
use Rattle.ip_filter.proofs.FragmentLemmas.{by_one_header, by_several_headers}
use Rattle.ip_filter.proofs.facts.Facts.has_identification.Goals as goal

pub returns-then-self-gt1 : goal.returns-then-self-gt1
returns-then-self-gt1 c =
    let packet = c.args.self.now.packet in
    let count = ap (λ o. o.header_count) packet.summary_is in
    c.has_header.ensures ∙ by_several_headers (λ x. x.identification == c.args.number) packet.bytes.now (omega (arith, count, c.if-self-gt1.true))

pub returns-in-Some : goal.returns-in-Some
returns-in-Some c =
    let packet = c.args.self.now.packet in
    let q = λ (x : Fragment). x.identification == c.args.number in
    let count = ap (λ o. o.header_count) packet.summary_is in
    let fragment = sym (ap (λ o. o.fragment) packet.summary_is) ∙ c.in-Some.is in
    let is = ap (λ o. option_map_or q o false) (sym fragment) in
    rw c.from.ensures is ∙ by_one_header q packet.bytes.now (omega (arith, count, c.if-self-gt1.false))

pub returns-in-None : goal.returns-in-None
returns-in-None c =
    let packet = c.args.self.now.packet in
    let q = λ (x : Fragment). x.identification == c.args.number in
    let count = ap (λ o. o.header_count) packet.summary_is in
    let fragment = sym (ap (λ o. o.fragment) packet.summary_is) ∙ c.in-None.is in
    ap (λ o. option_map_or q o false) (sym fragment) ∙ by_one_header q packet.bytes.now (omega (arith, count, c.if-self-gt1.false))
