use Rattle.ip_spec.proofs.Common.{refl, sym, ap, ◌∙◌, drop}
use Rattle.check_reference.proofs.AnswerLemmas.{is_empty-shown}
use Rattle.ip_spec.proofs.ParsedLemmas.{parsed_longest}
use Rattle.check_reference.proofs.LaterLemmas.{one_pushed}
use Rattle.check_reference.proofs.chain.plain_longest_chain.Goals as goal

pub headers-preserved : goal.headers-preserved
headers-preserved c =
    let first = c.is_empty.ensures ∙ is_empty-shown c.headers.headers.items c.headers.headers.len c.headers.headers.ok.0 in
    let next = rw (← c.split_at.ensures.front) at c.in-Some.ensures.next in
    one_pushed _ _ _ _ _ _ _ _ _ _ c.headers.invariant first next (ap (λ k. drop k c.headers.rest.now) c.split_at.ensures.front_len ∙ sym c.split_at.ensures.back) refl c.in_ok-push.ensures.items

pub returns-clause-longest : goal.returns-clause-longest
returns-clause-longest c =
    let first = c.is_empty.ensures ∙ is_empty-shown c.headers.headers.items c.headers.headers.len c.headers.headers.ok.0 in
    parsed_longest _ _ _ _ _ c.headers.invariant (rw first at c.in_default.ensures.none)
