use Rattle.ip_base.specs.declared.len_source.LenSource.TheVariants.{Slice}
use Rattle.ip_ext_slices.proofs.FaultLemmas.{fault_at_end}
use Rattle.ip_ext_slices.proofs.ParseLemmas.{ends_after}
use Rattle.ip_ext_slices.proofs.ipv6_exts_slice.Ipv6ExtensionsSlice.from_slice.Goals as goal

pub fault-requires : goal.fault-requires
fault-requires c =
    let scanned = c.scan-len.ensures in
    fault_at_end Slice _ _ _ _ _ (c.is_extension.ensures.0 c.if-is_extension.true) (ends_after _ _ _ scanned.len _ _ scanned.number scanned.rest)
