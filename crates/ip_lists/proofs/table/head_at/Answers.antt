use Rattle.std.proofs.Common.{◌≡◌, ◌+◌, ◌<◌, get_or, arith}
use Rattle.ip_lists.proofs.Linked.{link_to}
use Rattle.ip_lists.proofs.table.head_at.Goals as goal

pub returns-in_err-head-clause-none : goal.returns-in_err-head-clause-none
returns-in_err-head-clause-none c = λ _ previous linked within.
    let head = link_to c.args.next.now previous (c.args.first + c.args.number) linked within in
    let is : get_or c.args.next.now head.0 0 ≡ c.args.first + c.args.number = head.1 in
    let fits : get_or c.args.next.now head.0 0 < 4294967296 = omega (arith, c.type_inv.next head.0) in
    c.in_err-head.ensures (omega arith)
