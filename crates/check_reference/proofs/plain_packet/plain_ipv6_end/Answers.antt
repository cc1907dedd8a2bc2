use Rattle.ip_spec.proofs.Common.{◌∙◌, ap, sym, map, Some, has_fragmenting}
use Rattle.check_reference.specs.PlainHeader.{plain_header_of}
use Rattle.check_reference.proofs.AnswerLemmas.{is_empty-shown}
use Rattle.check_reference.proofs.PacketLemmas.{end_fragmented, end_fault}
use Rattle.check_reference.proofs.plain_packet.plain_ipv6_end.Goals as goal

pub returns-clause-fragmented : goal.returns-clause-fragmented
returns-clause-fragmented c =
    let chain = c.in_ok-chain in
    end_fragmented _ _ _ chain.ensures.longest chain.chain.rest.now chain.ensures.rest _
    (c.is_fragmented.ensures ∙ ap (λ hs. has_fragmenting (map plain_header_of hs)) c.deref.ensures.value)

pub returns-in-Some-clause-fault : goal.returns-in-Some-clause-fault
returns-in-Some-clause-fault c =
    let chain = c.in_ok-chain in
    ap Some c.in_ipv6_packet.ensures
    ∙ end_fault _ _ _ chain.ensures.longest chain.chain.rest.now chain.ensures.rest c.args.len_source c.is_empty-is_first.result chain.chain.number _
    (c.is_empty-is_first.ensures ∙ is_empty-shown _ _ chain.chain.headers.ok.0) chain.ensures.number (sym c.in-Some.is ∙ c.plain_fault.ensures)

pub returns-clause-fault : goal.returns-clause-fault
returns-clause-fault c =
    let chain = c.in_ok-chain in
    end_fault _ _ _ chain.ensures.longest chain.chain.rest.now chain.ensures.rest c.args.len_source c.is_empty-is_first.result chain.chain.number _
    (c.is_empty-is_first.ensures ∙ is_empty-shown _ _ chain.chain.headers.ok.0) chain.ensures.number (sym c.in-None.is ∙ c.plain_fault.ensures)
