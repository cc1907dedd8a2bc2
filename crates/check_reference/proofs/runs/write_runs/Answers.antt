use Rattle.ip_spec.proofs.Common.{rules, refl}
use Rattle.ip_ext_chains.proofs.RefusedLemmas.{spelled_refused}
use Rattle.ip_ext_chains.proofs.RewritingLemmas.{rewriting_spelled, rewriting_goes}
use Rattle.check_reference.proofs.runs.write_runs.Goals as goal

pub unwrap-requires : goal.unwrap-requires
unwrap-requires c =
    let spelled = rewriting_spelled _ _ c.runs.runs c.next.new.self _ _ _ _ c.runs.invariant c.in-Some.ensures.steps in
    spelled_refused _ _ _ _ _ c.in-Err.refused _ spelled c.in-Err.ensures.content c.io.ensures

pub runs-preserved : goal.runs-preserved
runs-preserved c =
    let spelled = rewriting_spelled _ _ c.runs.runs c.next.new.self _ _ _ _ c.runs.invariant c.in-Some.ensures.steps in
    search (rules, rewriting_goes, (c.in_default-write.ensures.alike _ _ spelled).1 refl)
