use Rattle.std.proofs.Common.{rules, refl}
use Rattle.ip_filter.proofs.JoinLemmas.{merged_first, last_first, zeros}
use Rattle.ip_filter.proofs.join.join_early.Goals as goal

pub returns-in-Some-clause-decide : goal.returns-in-Some-clause-decide
returns-in-Some-clause-decide c = λ frame f g xs z split fits df dg.
    merged_first frame c.args.is_and f g c.args.start _ c.decided.result c.in-Some.merged z zeros zeros xs c.args.tests.now split (search rules) refl c.decided.ensures fits c.in-Some.ensures df dg

pub returns-clause-decide : goal.returns-clause-decide
returns-clause-decide c = λ frame f g xs z split fits df dg.
    last_first frame c.args.is_and f g c.args.start _ _ c.leading_on.result z zeros xs c.args.tests.now c.put_first.new.tests split (search rules) refl fits refl df dg c.leading_on.ensures c.put_first.ensures
