use Rattle.ip_filter.proofs.primitive.address_before_mask.Goals as goal

pub returns-in-None-clause-none : goal.returns-in-None-clause-none
returns-in-None-clause-none c = λ a is front next. c.in-None.ensures.none a front
