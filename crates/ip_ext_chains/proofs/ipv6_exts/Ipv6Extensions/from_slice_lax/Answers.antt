use Rattle.ip_ext_chains.proofs.PlacedLemmas.{placed_numbers}
use Rattle.ip_ext_chains.proofs.ipv6_exts.Ipv6Extensions.from_slice_lax.Goals as goal

pub fill-requires-clause-numbers : goal.fill-requires-clause-numbers
fill-requires-clause-numbers c = placed_numbers _ _ c.take_fitting-fault.ensures.placed
