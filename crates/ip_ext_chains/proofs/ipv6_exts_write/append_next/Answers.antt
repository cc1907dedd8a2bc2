use Rattle.ip_spec.proofs.Common.{rules, arith}
use Rattle.ip_ext_chains.proofs.WalkedLemmas.{step_len, written_more}
use Rattle.ip_ext_chains.proofs.ipv6_exts_write.append_next.Goals as goal
use Rattle.ip_ext_chains.proofs.ipv6_exts_write.append_next.Goals.{in-Some, in_default}

pub append-requires : goal.append-requires
append-requires g c = omega (arith, step_len _ _ _ c.in-Some.ensures.some, c.requires.room)

pub returns-clause-written : goal.returns-clause-written
returns-clause-written g c v f before e k =
    elim c.match-next_in.branch [
      | in-Some w ↦ rw w.out-is (written_more v f e _ _ _ w.in-Some.ensures.some before _ _ k w.append.ensures.appended)
      | in_default w ↦ rw (w.out-is, w.in_default.ensures.none) k
    ]

pub returns-clause-room : goal.returns-clause-room
returns-clause-room g c = search (rules, in-Some, step_len, in_default)
