use Rattle.ip_spec.proofs.Common.{rules}
use Rattle.ip_dissect.proofs.DissectedLemmas.{base_none_empty, base_none_other, base_none4, base_none6, base_some4, base_some6}
use Rattle.ip_dissect.proofs.base.base_header.Goals as goal

pub returns-then-is_empty : goal.returns-then-is_empty
returns-then-is_empty c = base_none_empty c.args.bytes.now (search rules)

pub returns-in-Ok : goal.returns-in-Ok
returns-in-Ok c = base_some4 c.args.bytes.now c.in-Ok.base c.in-Ok.ensures.header c.in-Ok.ensures.prefix

pub returns-in-Err : goal.returns-in-Err
returns-in-Err c = base_none4 c.args.bytes.now _ (search rules) c.in-Err.ensures.fault

pub returns-in-Ok-from_slice : goal.returns-in-Ok-from_slice
returns-in-Ok-from_slice c = base_some6 c.args.bytes.now c.in-Ok-from_slice.base c.in-Ok-from_slice.ensures.header c.in-Ok-from_slice.ensures.prefix

pub returns-in-Err-from_slice : goal.returns-in-Err-from_slice
returns-in-Err-from_slice c = base_none6 c.args.bytes.now _ (search rules) c.in-Err-from_slice.ensures.fault

pub returns-in_default : goal.returns-in_default
returns-in_default c = base_none_other c.args.bytes.now (search rules) (search rules)
