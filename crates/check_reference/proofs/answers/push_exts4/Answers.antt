use Rattle.ip_spec.proofs.Common.{◌++◌, ℕ, List, length, get_or, ap, ◌∙◌, arith, string_bytes, on_ok_weaker}
use Rattle.ipexts_tool.specs.Parts.{next_line, ok_line}
use Rattle.check_reference.proofs.Exts4Lemmas.{exts4_one, exts4_none, two_joined, three_joined}
use Rattle.check_reference.proofs.answers.push_exts4.Goals as goal

pub returns-in_default : goal.returns-in_default
returns-in_default c =
    let answer = exts4_none c.args.number c.args.bytes.now (grind arith) c.in_default.ensures.none in
    rw answer (on_ok_weaker c.push_auth_fault.result (two_joined _ _ _ _ _ c.in_ok-push_next-2.ensures) c.push_auth_fault.ensures)

pub returns : goal.returns
returns c =
    let bytes = c.args.bytes.now in
    let answer = exts4_one c.args.number bytes c.in-Some.len (grind arith) c.in-Some.ensures.within c.in-Some.ensures.next in
    let told = three_joined _ _ _ ok_line _ _ (string_bytes c.push_ok-2.new.text) c.in_ok-push_header.ensures
    (c.in_ok-push_next-3.ensures ∙ ap (λ (r : List ℕ). string_bytes c.push_header.new.text ++ next_line (get_or bytes 0 0) (length r)) c.split_at.ensures.back) in
    rw answer (on_ok_weaker c.push_ok-2.result told c.push_ok-2.ensures)
