use Rattle.ip_spec.proofs.Common.{rules}
use Rattle.ip_ext_chains.proofs.PlacedLemmas.{placed_numbers, value_placed}
use Rattle.ip_ext_chains.proofs.ipv6_exts_runs.Ipv6ExtensionsRunsIterator.next.Goals as goal

pub fill-requires-clause-numbers : goal.fill-requires-clause-numbers
fill-requires-clause-numbers c = placed_numbers _ _ c.take_places-places.ensures.1

pub returns-clause-steps : goal.returns-clause-steps
returns-clause-steps c = search (rules, value_placed)

pub returns-clause-goes : goal.returns-clause-goes
returns-clause-goes c = let next = (returns-clause-steps c).0 in search rules
