use Rattle.ip_spec.proofs.Common.{ap, Err}
use Rattle.check_uses.proofs.chain_outcomes.ipv6_walk_refused.Goals as goal

pub returns-in-Err-Content-clause-reached : goal.returns-in-Err-Content-clause-reached
returns-in-Err-Content-clause-reached c =
    let fault = c.in-Err-Content.ensures.content _ (ap Err c.in-Err-Content.field-0-is) in
    (fault.answer.reach, fault.answer.is_reach, fault.appended)

pub returns-in-Err-Content-clause-answer : goal.returns-in-Err-Content-clause-answer
returns-in-Err-Content-clause-answer c = (c.in-Err-Content.ensures.content _ (ap Err c.in-Err-Content.field-0-is)).answer

pub returns-in-Err-Content-clause-unread : goal.returns-in-Err-Content-clause-unread
returns-in-Err-Content-clause-unread c = (c.in-Err-Content.ensures.content _ (ap Err c.in-Err-Content.field-0-is)).unread
