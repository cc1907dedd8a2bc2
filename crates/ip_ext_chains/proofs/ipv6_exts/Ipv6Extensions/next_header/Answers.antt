use Rattle.ip_spec.proofs.Common.{rules, ap}
use Rattle.ip_ext_chains.specs.Ipv6Extensions.{placed_fields}
use Rattle.ip_ext_chains.proofs.WalkedLemmas.{step_less, walked_more, walked_none, walked_in, walked_answer}
use Rattle.ip_ext_chains.proofs.WriteLemmas.{answer_exactly}
use Rattle.ip_ext_chains.proofs.ipv6_exts.Ipv6Extensions.next_header.Goals as goal

pub headers-init : goal.headers-init
headers-init c =
    let on = walked_in (placed_fields c.args.self.now) c.args.first.0 c.header_len.ensures.encodable in
    on _ _ _ c.next_in-6.ensures.some c.next_in-6.ensures.none
    (on _ _ _ c.next_in-5.ensures.some c.next_in-5.ensures.none
    (on _ _ _ c.next_in-4.ensures.some c.next_in-4.ensures.none
    (on _ _ _ c.next_in-3.ensures.some c.next_in-3.ensures.none
    (on _ _ _ c.next_in-2.ensures.some c.next_in-2.ensures.none
    (on _ _ _ c.next_in.ensures.some c.next_in.ensures.none (walked_none (placed_fields c.args.self.now) c.args.first.0 c.new-walk.result
    (ap placed_fields c.new-walk.ensures.headers) c.new-walk.ensures.number c.new-walk.ensures.first c.new-walk.ensures.reached))))))

pub headers-smaller : goal.headers-smaller
headers-smaller c = step_less c.headers.walk c.next.new.self _ c.in-Some.ensures.some

pub headers-preserved : goal.headers-preserved
headers-preserved c = search (rules, walked_more)

pub returns-clause-answer : goal.returns-clause-answer
returns-clause-answer c =
    walked_answer (placed_fields c.args.self.now) c.args.first.0 c.headers.walk c.next.new.self c.headers.invariant c.in_default.ensures.none _ c.answer.ensures

pub returns-clause-exactly : goal.returns-clause-exactly
returns-clause-exactly c = answer_exactly c.args.self.now c.args.first.0 c.header_len.ensures.encodable _ (returns-clause-answer c)
