use Rattle.ip_filter.proofs.FlagLemmas.{one_more_flag}
use Rattle.ip_filter.proofs.flags.FlagsHeaderVisitor.visit.Goals as goal

pub returns : goal.returns
returns c = λ old k front was index offset none n less.
    let kinds = c.kinds_in-is_first.ensures in
    rw (c.with-3.ensures n less, c.with-2.ensures n less, c.with.ensures n less, was none n less, kinds.first, kinds.later) (one_more_flag n front (record { number = c.args.number.0; bytes = c.args.header.now }))
