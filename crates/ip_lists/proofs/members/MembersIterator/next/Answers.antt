use Rattle.std.proofs.Common.{◌≡◌, ◌-◌, ◌∷◌, length, refl, ap, arith}
use Rattle.ip_lists.specs.Members.{members_after, members_left}
use Rattle.ip_lists.proofs.Walks.{step_some, step_none}
use Rattle.ip_lists.proofs.members.MembersIterator.next.Goals as goal

pub returns-in-Some-clause-steps : goal.returns-in-Some-clause-steps
returns-in-Some-clause-steps c =
    let it = c.args.self.now in
    step_some it.next.now it.head it.place it.left c.in-Some.place c.member_after.result c.if-self-eq0.false c.member_after.ensures c.in-Some.is

pub returns-in-Some-clause-goes : goal.returns-in-Some-clause-goes
returns-in-Some-clause-goes c =
    let fewer : length (members_left c.args.self.now) ≡ length (c.in-Some.place ∷ members_after c.args.self.now.next.now c.args.self.now.head c.in-Some.place (c.args.self.now.left - 1)) = ap length (returns-in-Some-clause-steps c) in
    record { on = λ _. (tt, tt, omega arith); keeps = tt; rests = λ _. tt }

pub returns-in-None-clause-steps : goal.returns-in-None-clause-steps
returns-in-None-clause-steps c =
    let it = c.args.self.now in
    (step_none it.next.now it.head it.place it.left c.member_after.result c.member_after.ensures c.in-None.is, refl)
