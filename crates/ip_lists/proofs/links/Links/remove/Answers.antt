use Rattle.std.proofs.Common.{◌<◌, length, refl}
use Rattle.ip_lists.specs.Lists.{AreInverse}
use Rattle.ip_lists.proofs.Paths.{path_from, start_within}
use Rattle.ip_lists.proofs.Linked.{neighbours}
use Rattle.ip_lists.proofs.Removed.{IsBetween, between, removed_alone, removed_linked, list_without, list_stays}
use Rattle.ip_lists.proofs.links.Links.remove.Goals as goal

found : (c : goal.After-rewire-in-Some) → IsBetween c.args.self.now.next.now c.args.self.now.previous.now c.in-Some.field-0.before c.args.place c.in-Some.field-0.after
found c = between _ _ _ _ _ c.in-Some.ensures.found.0 c.in-Some.ensures.found.1

pub returns-in-Some-clause-linked : goal.returns-in-Some-clause-linked
returns-in-Some-clause-linked c = λ linked. rw (c.rewire.ensures, c.rewire-in-Some.ensures) (removed_linked _ _ _ _ _ linked (found c))

pub returns-in-Some-clause-alone : goal.returns-in-Some-clause-alone
returns-in-Some-clause-alone c = λ _. rw (c.rewire.ensures, c.rewire-in-Some.ensures) (removed_alone _ _ _ _ _ (found c))

pub returns-in-Some-clause-taken : goal.returns-in-Some-clause-taken
returns-in-Some-clause-taken c = λ linked h xs ys other path. rw (c.rewire.ensures) (list_without _ _ _ _ _ linked (found c) h xs ys other path)

pub returns-in-Some-clause-others : goal.returns-in-Some-clause-others
returns-in-Some-clause-others c = λ linked h zs other none path. rw (c.rewire.ensures) (list_stays _ _ _ _ _ linked (found c) h zs other none path)

absent : (c : goal.In-None) → AreInverse c.args.self.now.next.now c.args.self.now.previous.now → c.args.place < length c.args.self.now.next.now → ⊥
absent c linked within = c.in-None.ensures.none refl (neighbours _ _ _ linked within)

pub returns-in-None-clause-done : goal.returns-in-None-clause-done
returns-in-None-clause-done c = λ linked within. absurd (absent c linked within)

pub returns-in-None-clause-taken : goal.returns-in-None-clause-taken
returns-in-None-clause-taken c = λ linked h xs ys other path.
    absurd (absent c linked (start_within c.args.self.now.next.now c.args.place h ys (path_from c.args.self.now.next.now h h c.args.place xs ys path)))
