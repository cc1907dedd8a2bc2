use Rattle.ip_spec.proofs.Common.{◌∙◌, ap, sym, refl, drop}
use Rattle.check_reference.proofs.AnswerLemmas.{is_empty-shown}
use Rattle.check_reference.proofs.LaterLemmas.{goes_on, stops_here, ends_here}
use Rattle.check_reference.proofs.later.plain_chain_to_later.Goals as goal

pub headers-preserved : goal.headers-preserved
headers-preserved c =
    let first = c.is_empty.ensures ∙ is_empty-shown c.headers.headers.items c.headers.headers.len c.headers.headers.ok.0 in
    let next = rw (← c.split_at.ensures.front) at c.in-Some.ensures.next in
    goes_on _ _ _ _ _ _ _ _ _ _ c.headers.invariant first next (ap (λ k. drop k c.headers.rest.now) c.split_at.ensures.front_len ∙ sym c.split_at.ensures.back) refl c.in_ok-push.ensures.items _ c.is_later.ensures c.if-is_later.false

pub returns-then-is_later : goal.returns-then-is_later
returns-then-is_later c =
    let first = c.is_empty.ensures ∙ is_empty-shown c.headers.headers.items c.headers.headers.len c.headers.headers.ok.0 in
    let next = rw (← c.split_at.ensures.front) at c.in-Some.ensures.next in
    stops_here _ _ _ _ _ _ _ _ _ _ c.headers.invariant first next (ap (λ k. drop k c.headers.rest.now) c.split_at.ensures.front_len ∙ sym c.split_at.ensures.back) refl c.in_ok-push.ensures.items _ c.is_later.ensures c.if-is_later.true _ refl refl refl

pub returns : goal.returns
returns c =
    let first = c.is_empty.ensures ∙ is_empty-shown c.headers.headers.items c.headers.headers.len c.headers.headers.ok.0 in
    ends_here _ _ _ _ _ c.headers.invariant (rw first at c.in_default.ensures.none) _ refl refl refl
