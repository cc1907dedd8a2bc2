use Rattle.ip_spec.proofs.Common.{rules}
use Rattle.ip_dissect.proofs.DissectedLemmas.{base_none_empty, base_none_other, base_none4, base_none6}
use Rattle.ip_dissect.proofs.packet.Packet.visit.Goals as goal

pub without_base-requires : goal.without_base-requires
without_base-requires g c = λ _. (search rules, base_none_empty c.args.bytes.now (search rules))

pub without_base-requires-in-Err : goal.without_base-requires-in-Err
without_base-requires-in-Err g c = λ _. (search rules, base_none4 c.args.bytes.now _ (search rules) c.in-Err.ensures.fault)

pub without_base-requires-in-Err-from_slice : goal.without_base-requires-in-Err-from_slice
without_base-requires-in-Err-from_slice g c = λ _. (search rules, base_none6 c.args.bytes.now _ (search rules) c.in-Err-from_slice.ensures.fault)

pub without_base-requires-in_default : goal.without_base-requires-in_default
without_base-requires-in_default g c = λ _. (search rules, base_none_other c.args.bytes.now (search rules) (search rules))
