use Rattle.std.proofs.Common.{inl, inr, arith, rules}
use Rattle.ip_frames.proofs.PlainLemmas.{plain}
use Rattle.ip_frames.proofs.find.plain_ethernet.Goals as goal

pub returns-clause-found : goal.returns-clause-found
returns-clause-found c = plain c.args.frame.now c.from_be_bytes-number.result (omega arith) (search rules)
    (elim c.else-number-ne2048.either [ inl w ↦ inr w.1 | inr e ↦ inl e ])
