use Rattle.ip_spec.proofs.Common.{arith, nat_tests, common_steps, subst, ◌∷◌}
use Rattle.ip_filter.specs.Program.{tests_of}
use Rattle.ip_filter.specs.Compiled.{AreCompiled}
use Rattle.ip_filter.proofs.CompileLemmas.{some_start}
use Rattle.ip_filter.proofs.compile.Compiler.join.Goals as goal

pub returns-in-Some : goal.returns-in-Some
returns-in-Some c = λ f g fs few are frame.
    c.join_at.ensures frame f g fs few
    (subst (λ starts. AreCompiled frame (g ∷ f ∷ fs) starts (tests_of c.args.self.now.filter)) c.in-Some.ensures.items (are frame))

pub returns-in_default : goal.returns-in_default
returns-in_default c = λ f g fs few are. absurd (some_start g (f ∷ fs) c.args.self.now (grind (arith, common_steps, nat_tests, c.in_default.ensures.variant)) are)
