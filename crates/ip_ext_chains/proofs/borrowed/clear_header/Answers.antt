use Rattle.ip_spec.proofs.Common.{arith, ap, length}
use Rattle.ip_ext_chains.proofs.ClearingLemmas.{clearing_more}
use Rattle.ip_ext_chains.proofs.borrowed.clear_header.Goals as goal

pub slice_bounds-clear_reserved_bits-end : goal.slice_bounds-clear_reserved_bits-end
slice_bounds-clear_reserved_bits-end c = omega (arith, c.requires.room, ap length c.slice.ensures.bytes)

pub returns : goal.returns
returns c = λ all left k. clearing_more _ _ _ _ _ k _ _ _ _ c.number.ensures c.slice.ensures.bytes c.slice.ensures.header (omega arith) c.clear_reserved_bits.ensures.cleared
