use Rattle.ip_spec.proofs.Common.{◌∙◌, ◌++◌, ◌≤◌, sym, ap, length, take, drop, arith}
use Rattle.ip_spans.specs.Written.{written_chain}
use Rattle.check_uses.proofs.OptionLemmas.{if_both, if_none}
use Rattle.check_uses.proofs.SpanLemmas.{first_lie, first_chain, first_len, first_within, written_bytes}
use Rattle.check_uses.proofs.span_outcomes.copy_chain.Goals as goal

pub returns-clause-len : goal.returns-clause-len
returns-clause-len c =
    let chain = c.parse_chain-chain in
    let room : chain.result.headers ≤ length c.args.spans.now = omega (arith, c.if-spans-chain.false, chain.auto.spans) in
    let len = first_len c.args.first c.args.bytes.now c.args.spans.now chain.new.spans chain.result.headers chain.ensures.spans (ap (λ p. p.headers) chain.ensures.chain) room in
    if_both c.write_headers.result _ _ _ (λ n is same. is ∙ len) c.write_headers.ensures.len c.write_headers.ensures.len

pub returns-clause-chain : goal.returns-clause-chain
returns-clause-chain c =
    let chain = c.parse_chain-chain in
    let spans = take chain.result.headers chain.new.spans in
    let room : chain.result.headers ≤ length c.args.spans.now = omega (arith, c.if-spans-chain.false, chain.auto.spans) in
    let linked = first_chain c.args.first c.args.bytes.now c.args.spans.now chain.new.spans chain.result.headers chain.ensures.spans (ap (λ p. p.headers) chain.ensures.chain) room in
    if_both c.write_headers.result _ _ _
    (λ n written is_chain fits. (
      written_chain c.args.bytes.now spans,
      is_chain c.args.first linked,
      written fits ∙ ap (λ b. b ++ drop (length b) c.args.out.now) (sym (written_bytes c.args.bytes.now spans)),
    ))
    c.write_headers.ensures.written c.write_headers.ensures.chain

pub returns-clause-none : goal.returns-clause-none
returns-clause-none c =
    let chain = c.parse_chain-chain in
    let room : chain.result.headers ≤ length c.args.spans.now = omega (arith, c.if-spans-chain.false, chain.auto.spans) in
    let counted = ap (λ p. p.headers) chain.ensures.chain in
    let lie = first_lie c.args.first c.args.bytes.now c.args.spans.now chain.new.spans chain.result.headers chain.ensures.spans counted room in
    let within = first_within c.args.first c.args.bytes.now c.args.spans.now chain.new.spans chain.result.headers chain.ensures.spans counted room in
    if_none c.write_headers.result _ _ (λ no. absurd (no lie (omega (arith, within)))) c.write_headers.ensures.none
