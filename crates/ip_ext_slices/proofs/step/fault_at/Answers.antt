use Rattle.ip_base.specs.declared.len_source.LenSource.TheVariants.{Slice}
use Rattle.ip_ext_slices.proofs.FaultLemmas.{fault_at_end}
use Rattle.ip_ext_slices.proofs.step.fault_at.Goals as goal

pub fault-requires : goal.fault-requires
fault-requires c = fault_at_end Slice _ _ _ _ _ (c.is_extension.ensures.0 c.if-not-is_extension.false) c.in-None.ensures.end
