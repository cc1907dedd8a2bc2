use Rattle.std.proofs.Common.{length}
use Rattle.ip_lists.proofs.Walks.{along_list, few_after, has_list, within_after}
use Rattle.ip_lists.proofs.links.Links.members.Goals as goal

pub returns-clause-list : goal.returns-clause-list
returns-clause-list c = λ xs list. along_list c.args.self.now.next.now c.args.head xs list

pub returns-clause-all : goal.returns-clause-all
returns-clause-all c = λ linked within. has_list c.args.self.now.next.now c.args.self.now.previous.now linked c.args.head within

pub returns-clause-few : goal.returns-clause-few
returns-clause-few c = few_after c.args.self.now.next.now c.args.head c.args.head (length c.args.self.now.next.now)

pub returns-clause-within : goal.returns-clause-within
returns-clause-within c = within_after c.args.self.now.next.now c.args.head c.args.head (length c.args.self.now.next.now)
