use Rattle.std.proofs.lemmas.Bool.{false≢true}
use Rattle.ip_bpf.proofs.CheckLemmas.{error_refutes, not_both}
use Rattle.ip_bpf.proofs.checks.check.Goals as goal

pub returns-in_err-check_instructions-clause-ok : goal.returns-in_err-check_instructions-clause-ok
returns-in_err-check_instructions-clause-ok c = (
  λ ok. absurd (not_both c.from_residual.result c.from_residual.ensures.0 ok),
  λ valid. absurd (error_refutes c.args.program.now c.in_err-check_instructions.field-0.0 c.in_err-check_instructions.ensures.error valid),
)

pub returns-in-Some-clause-ok : goal.returns-in-Some-clause-ok
returns-in-Some-clause-ok c = (
  λ h. absurd (false≢true h),
  λ valid. absurd (valid.written c.in-Some.index c.in-Some.ensures.0 c.in-Some.ensures.1),
)
