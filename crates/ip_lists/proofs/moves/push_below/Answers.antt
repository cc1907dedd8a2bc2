use Rattle.std.proofs.Common.{◌≡◌, ◌<◌, ◌∙◌, true, arith}
use Rattle.ip_lists.proofs.Ranges.{next_alone, pushed_more}
use Rattle.ip_lists.proofs.moves.push_below.Goals as goal

pub loop-place-preserved : goal.loop-place-preserved
loop-place-preserved c =
    let pushed = c.loop-place.invariant.1 in
    let less : c.loop-place.place < c.args.head = c.loop-place-test.true in
    let done : c.push_back.result ≡ true = c.push_back.ensures.done pushed.linked pushed.within (λ e. absurd (omega arith)) (next_alone _ _ _ _ pushed less) in (
      c.push_back.ensures.len ∙ c.loop-place.invariant.0,
      pushed_more _ _ _ _ _ _ pushed less (c.push_back.ensures.len) (c.push_back.ensures.linked pushed.linked)
          (c.push_back.ensures.appended pushed.linked done) (c.push_back.ensures.others pushed.linked done),
    )
