use Rattle.std.proofs.Common.{refl}
use Rattle.ip_lists.proofs.Linked.{before}
use Rattle.ip_lists.proofs.Appended.{IsAppendable, appendable, appended_linked, list_appended, list_stays, list_through}
use Rattle.ip_lists.proofs.links.Links.push_back.Goals as goal

found : (c : goal.After-rewire-in-Some) → IsAppendable c.args.self.now.next.now c.args.self.now.previous.now c.in-Some.last c.args.place c.args.head
found c = let facts = c.in-Some.ensures.found in appendable _ _ _ _ _ facts.0 facts.1 facts.2

pub returns-in-Some-clause-linked : goal.returns-in-Some-clause-linked
returns-in-Some-clause-linked c = λ linked. rw (c.rewire.ensures, c.rewire-in-Some.ensures) (appended_linked _ _ _ _ _ linked (found c))

pub returns-in-Some-clause-appended : goal.returns-in-Some-clause-appended
returns-in-Some-clause-appended c = λ linked _ xs list. rw (c.rewire.ensures) (list_appended _ _ _ _ _ linked (found c) xs list)

pub returns-in-Some-clause-others : goal.returns-in-Some-clause-others
returns-in-Some-clause-others c = λ linked _ h zs not_head not_place none list. rw (c.rewire.ensures) (list_stays _ _ _ _ _ (found c) h zs not_head not_place none list)

pub returns-in-None-clause-done : goal.returns-in-None-clause-done
returns-in-None-clause-done c = λ linked within other alone. absurd (c.in-None.ensures.none refl (other, alone, (_, before _ _ _ linked within)))

pub returns-in-Some-clause-through : goal.returns-in-Some-clause-through
returns-in-Some-clause-through c = λ linked _ h xs ys not_head not_place list. rw (c.rewire.ensures) (list_through _ _ _ _ _ linked (found c) h xs ys not_head not_place list)
