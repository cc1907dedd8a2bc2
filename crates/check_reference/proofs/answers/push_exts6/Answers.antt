use Rattle.ip_spec.proofs.Common.{◌-◌, map, length, ◌∙◌, string_bytes, on_ok_weaker}
use Rattle.check_reference.proofs.Exts4Lemmas.{three_joined}
use Rattle.check_reference.specs.PlainHeader.{plain_header_of}
use Rattle.ipexts_tool.specs.Parts.{chain_end_line}
use Rattle.check_reference.proofs.AnswerLemmas.{exts6_answer-longest, is_empty-shown}
use Rattle.check_reference.proofs.PacketLemmas.{read_len}
use Rattle.check_reference.proofs.answers.push_exts6.Goals as goal

pub returns : goal.returns
returns c =
    let bytes = c.args.bytes.now in
    let chain = c.in_ok-chain.chain in
    let headers = map plain_header_of chain.headers.items in
    let longest = c.in_ok-chain.ensures.longest in
    let offset = read_len c.args.number bytes headers longest chain.rest.now c.in_ok-chain.ensures.rest in
    let first = c.is_empty-first.ensures ∙ is_empty-shown chain.headers.items chain.headers.len chain.headers.ok.0 in
    let answer = exts6_answer-longest c.args.number bytes headers longest chain.number chain.rest.now c.is_empty-first.result
    (length bytes - length chain.rest.now) c.plain_fault.result c.in_ok-chain.ensures.number c.in_ok-chain.ensures.rest first offset c.plain_fault.ensures in
    let told = three_joined _ _ _ (chain_end_line c.plain_fault.result) _ _ (string_bytes c.push_chain_end.new.text)
    (rw c.deref.ensures.value at c.in_ok-push_headers.ensures) c.in_ok-push_next.ensures in
    rw answer (on_ok_weaker c.push_chain_end.result told c.push_chain_end.ensures)
