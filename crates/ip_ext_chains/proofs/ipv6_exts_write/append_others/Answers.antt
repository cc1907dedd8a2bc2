use Rattle.ip_spec.proofs.Common.{arith}
use Rattle.ip_ext_chains.proofs.WalkedLemmas.{written_at, written_more, written_walk, step_less, step_len}
use Rattle.ip_ext_chains.proofs.ipv6_exts_write.append_others.Goals as goal

pub headers-init : goal.headers-init
headers-init g c = (
  λ w here v f before e k. written_at v f w _ here before _ k,
  omega (arith, c.requires.room, c.args.out.now.ok.0),
  omega arith,
)

pub headers-smaller : goal.headers-smaller
headers-smaller g c = step_less c.headers.walk c.next.new.self _ c.in-Some.ensures.some

pub append-requires : goal.append-requires
append-requires g c = omega (arith, step_len c.headers.walk c.next.new.self _ c.in-Some.ensures.some, c.headers.invariant.1, c.headers.out.ok.0)

pub headers-preserved : goal.headers-preserved
headers-preserved g c =
    let s = c.in-Some.ensures.some in (
      λ w here v f before e k. written_more v f e c.headers.walk c.next.new.self _ s before _ _ (c.headers.invariant.0 w here v f before e k) c.append.ensures.appended,
      omega (arith, c.headers.invariant.1, step_len c.headers.walk c.next.new.self _ s, c.append.ensures.len, c.append.ensures.capacity, c.headers.out.ok.0, c.append.new.out.ok.0),
      omega (arith, c.headers.invariant.2, c.append.ensures.capacity),
    )

pub returns-clause-written : goal.returns-clause-written
returns-clause-written g c w here v f before e k =
    written_walk v f c.headers.walk c.next.new.self before _ (c.headers.invariant.0 w here v f before e k) c.in_default.ensures.none _ c.answer.ensures
