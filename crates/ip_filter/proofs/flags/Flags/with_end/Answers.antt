use Rattle.std.proofs.Common.{refl, ap, ◌∙◌}
use Rattle.ip_filter.specs.Truth.{is_truncated, fault_in}
use Rattle.ip_filter.proofs.flags.Flags.with_end.Goals as goal

pub returns : goal.returns
returns c = λ m p is known n less selected.
    rw (c.with_fault.ensures n less, c.with.ensures n less, known n less, c.is_truncated.ensures ∙ ap is_truncated is, c.fault_in.ensures ∙ ap fault_in is) refl
