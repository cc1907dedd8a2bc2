use Rattle.ip_spec.proofs.Common.{ap, Err}
use Rattle.ip_ext_chains.proofs.RefusedLemmas.{no_fault}
use Rattle.check_uses.proofs.places.put_in_order.Goals as goal

pub returns-in-Ok-clause-read : goal.returns-in-Ok-clause-read
returns-in-Ok-clause-read c = λ b r e. c.in-Ok.ensures.parsed_again b r _ e c.set_next_headers-first.ensures.leads c.requires

pub unreachable-requires : goal.unreachable-requires
unreachable-requires c =
    let k = c.in-Err-Content.ensures.content _ (ap Err c.in-Err-Content.field-0-is) in
    no_fault _ _ (c.one_walk_answer.ensures.only_answer _ _ _ _ k.answer c.set_next_headers-first.ensures.leads)
