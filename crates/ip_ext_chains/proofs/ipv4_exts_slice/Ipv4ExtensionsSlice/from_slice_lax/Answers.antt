use Rattle.ip_spec.proofs.Common.{arith, take_rest}
use Rattle.ip_ext_slices.proofs.Ipv4Lemmas.{whole_header}
use Rattle.ip_ext_chains.proofs.Ipv4WalkLemmas.{answer_of_one}
use Rattle.ip_ext_chains.proofs.ipv4_exts_slice.Ipv4ExtensionsSlice.from_slice_lax.Goals as goal

pub returns-in-Ok-clause-answer : goal.returns-in-Ok-clause-answer
returns-in-Ok-clause-answer c =
    answer_of_one _ _ _ _ _ (grind arith) c.in-Ok.ensures.header c.in-Ok.ensures.prefix c.next_header.ensures (rw c.slice.ensures.bytes (take_rest c.args.start_slice.now _))

pub returns-in-Ok-clause-truncated : goal.returns-in-Ok-clause-truncated
returns-in-Ok-clause-truncated c = whole_header _ _ _ (returns-in-Ok-clause-answer c).value
