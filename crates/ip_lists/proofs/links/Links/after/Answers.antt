use Rattle.ip_lists.proofs.Paths.{first_by, path_from}
use Rattle.ip_lists.proofs.links.Links.after.Goals as goal

pub returns-clause-list : goal.returns-clause-list
returns-clause-list c = λ xs ys list.
    let next = c.args.self.now.next.now in
    first_by next c.args.place c.args.head c.member_after.result c.member_after.ensures ys (path_from next c.args.head c.args.head c.args.place xs ys list)
