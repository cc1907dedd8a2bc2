use Rattle.std.proofs.Common.{◌≡◌, ◌<◌, length, true}
use Rattle.ip_lists.specs.Lists.{AreInverse}
use Rattle.ip_lists.proofs.Moved.{taken_out, moved_to}
use Rattle.ip_lists.proofs.moves.move_to.Goals as goal

pub returns-then-remove-clause-moved : goal.returns-then-remove-clause-moved
returns-then-remove-clause-moved c = λ linked head_within place_within apart.
    let mid_linked : AreInverse c.remove.new.self.next.now c.remove.new.self.previous.now = c.remove.ensures.linked linked in
    let within : c.args.head < length c.remove.new.self.next.now = rw (c.remove.ensures.len) head_within in
    let pushed : c.push_back.result ≡ true = c.push_back.ensures.done mid_linked within apart (c.remove.ensures.alone c.if-remove.true) in
    moved_to _ c.remove.new.self.next.now _ _ _ apart
    (taken_out _ _ _ (c.remove.ensures.taken linked) (c.remove.ensures.others linked))
    (λ xs list. c.push_back.ensures.appended mid_linked pushed xs list)
    (λ h zs not_head not_place none list. c.push_back.ensures.others mid_linked pushed h zs not_head not_place none list)
