use Rattle.ip_spec.proofs.Common.{rules, [], Consumes-nil, err_from_is_err_and, on_ok_weaker, IfErr-weaker}
use Rattle.ipexts_tool.proofs.MemoryLemmas.{IfMemory-weaker}
use Rattle.ipexts_tool.proofs.ProgressLemmas.{Advances-none, Advances-trans, Advances-answers, StopsWithin-answers, StopsWithin-none}
use Rattle.ipexts_tool.proofs.run.Goals as goal

pub loop-init : goal.loop-init
loop-init g c = rw c.new-line.ensures (Advances-none _ _ _ [] (Consumes-nil _))

pub returns-in_err-advance-clause-memory : goal.returns-in_err-advance-clause-memory
returns-in_err-advance-clause-memory g c =
    let p = err_from_is_err_and c.from_residual.result c.from_residual.ensures.1 in
    rw (p.1, p.2) (IfMemory-weaker c.in_err-advance.field-0.0 (StopsWithin-answers _ _ _ _ _ _ c.loop.invariant) c.in_err-advance.ensures.memory)

pub returns-then-not-branch-clause-answers : goal.returns-then-not-branch-clause-answers
returns-then-not-branch-clause-answers g c =
    let came = Advances-trans _ _ _ _ _ _ _ _ c.loop.invariant c.in_ok-advance.ensures.ok in
    on_ok_weaker c.finish.result (Advances-answers _ _ _ _ _ _ came (search rules)) (rw c.as_slice.ensures.value at c.finish.ensures.ok)

pub returns-then-not-branch-clause-memory : goal.returns-then-not-branch-clause-memory
returns-then-not-branch-clause-memory g c =
    let came = Advances-trans _ _ _ _ _ _ _ _ c.loop.invariant c.in_ok-advance.ensures.ok in
    IfErr-weaker c.finish.result _ _ (λ e. IfMemory-weaker e (λ kept. StopsWithin-answers _ _ _ _ _ _ came (StopsWithin-none _ _ _ _ kept))) c.finish.ensures.memory

pub loop-preserved : goal.loop-preserved
loop-preserved g c = Advances-trans _ _ _ _ _ _ _ _ c.loop.invariant c.in_ok-advance.ensures.ok
