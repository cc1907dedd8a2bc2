use Rattle.ip_lists.proofs.Paths.{first_by}
use Rattle.ip_lists.proofs.links.Links.first.Goals as goal

pub returns-clause-list : goal.returns-clause-list
returns-clause-list c = λ xs list. first_by c.args.self.now.next.now c.args.head c.args.head c.member_after.result c.member_after.ensures xs list
